-- All variables that a unification can bind: those of its two sides and of the values of the store.
use Rattle.ghc_unify.proofs.Words.{◌≡◌, suc, ◌+◌, ◌-◌, ◌≤◌, true, false, cond, List, [], ◌∷◌, ◌++◌, length, refl, sym, ap, ◌∙◌, subst, inl, inr, arith, Option, Some, None, is_some, VarName, Tree, variable, integer, node, Trees, none, more, Occurs, OccursIn, StoreValue, value_at, In, name_cmp, name_decided, in_left, in_right, name_total, name_antisymmetric, itself, removed_less, Moves}
use Rattle.std.specs.FinMap as finite
use Rattle.ghc_unify.proofs.Locality.{by_binding, by_value}
use Rattle.ghc_unify.proofs.Agree.{Alike, AllInside, steps}
use Rattle.ghc_unify.proofs.Bound.{map_bound, bound_each}

abbrev mutual
  -- the variables of a tree
  pub names : Tree → List VarName
  names (variable x) = x ∷ []
  names (integer k) = []
  names (node f ts) = names_all ts

  pub names_all : Trees → List VarName
  names_all none = []
  names_all (more t ts) = names t ++ names_all ts

mutual
  in_names : (t : Tree) (x : VarName) → Occurs x t → In x (names t)
  in_names (variable y) x o = inl o
  in_names (integer k) x o = absurd o
  in_names (node f ts) x o = in_names_all ts x o

  in_names_all : (ts : Trees) (x : VarName) → OccursIn x ts → In x (names_all ts)
  in_names_all none x o = absurd o
  in_names_all (more t ts) x (inl o) = in_left (names t) (names_all ts) x (in_names t x o)
  in_names_all (more t ts) x (inr o) = in_right (names t) (names_all ts) x (in_names_all ts x o)

-- the variables of the values
abbrev pub value_names : List (VarName × Tree) → List VarName
value_names [] = []
value_names (e ∷ es) = names e.1 ++ value_names es

in_values : (es : List (VarName × Tree)) (x : VarName) (t : Tree) → finite.find name_cmp x es ≡ Some t → (y : VarName) → Occurs y t → In y (value_names es)
in_values [] x t e y o = let clash : None ≡ Some t = e in cc
in_values (b ∷ es) x t e y o =
    let F = λ (q : VarName). finite.find name_cmp q es in
    by_binding (λ o _. o ≡ Some t → In y (names b.1 ++ value_names es)) F F b.0 b.1 x
    (λ _ p. let same : t ≡ b.1 = cc in in_left (names b.1) (value_names es) y (in_names b.1 y (subst (Occurs y) same o)))
    (λ p. in_right (names b.1) (value_names es) y (in_values es x t p y o)) e

-- the variables of a store's values and of two trees
abbrev pub scope : StoreValue → Tree → Tree → List VarName
scope s l r = (names l ++ names r) ++ value_names (finite.entries s)

-- a map binds no more variables than a list has that holds them all
pub no_more_than : (xs : List VarName) (m : StoreValue) → ((x : VarName) (t : Tree) → value_at m x ≡ Some t → In x xs) → finite.len m ≤ length xs
no_more_than [] m h =
    let empty : m ≡ finite.empty = finite.same_map name_total name_antisymmetric m finite.empty (λ q.
    by_value (value_at m q) (λ e. e ∙ sym (finite.get-empty name_cmp q)) (λ t e. absurd (h q t e))) in
    omega (arith, ap finite.len empty ∙ finite.len-empty name_cmp Tree)
no_more_than (x ∷ xs) m h =
    let rest : finite.len (finite.remove m x) ≤ length xs = no_more_than xs (finite.remove m x) (λ y t e.
    elim (name_decided y x) [
      | inl same ↦ let clash : None ≡ Some t = sym (finite.get-remove name_total m x x ∙ ap (λ b. cond b None (value_at m x)) (itself x)) ∙ ap (value_at (finite.remove m x)) (sym same) ∙ e in cc
      | inr apart ↦ elim (h y t (removed_less m x y t e)) [ inl same ↦ absurd (apart same) | inr i ↦ i ]
    ]) in
    let len = finite.len-remove name_total m x in
    elim (finite.contains_key m x) as (λ b. finite.len (finite.remove m x) ≡ cond b (finite.len m - 1) (finite.len m) → finite.len m ≤ suc (length xs)) [
      | true ↦ λ e. omega (arith, e, rest)
      | false ↦ λ e. omega (arith, e, rest)
    ] len

-- what stands in the values and in the two trees stays in the scope
inside : (s : StoreValue) (l r : Tree) → Alike (λ y. In y (scope s l r)) (value_at s) (value_at s) (value_at s) (value_at s)
inside s l r = record {
  old = λ x d. refl;
  agree = λ x d. refl;
  closed = λ x t d e y o.
      in_right (names l ++ names r) (value_names (finite.entries s)) y (in_values (finite.entries s) x t (sym (finite.get-entries s x) ∙ e) y o);
}

sides : (s : StoreValue) (l r : Tree) → AllInside (λ y. In y (scope s l r)) ((l, r) ∷ [])
sides s l r = (
  λ y o. in_left (names l ++ names r) (value_names (finite.entries s)) y (in_left (names l) (names r) y (in_names l y o)),
  λ y o. in_left (names l ++ names r) (value_names (finite.entries s)) y (in_right (names l) (names r) y (in_names r y o)),
  tt,
)

-- the bindings of a run are of variables in its scope
pub few_binds : (s : StoreValue) (l r : Tree) (V : VarName → Option Tree) (es : List (Tree × Tree)) (bs : List (VarName × Tree)) (rs : List VarName) (m : StoreValue)
    → Moves (value_at s) (value_at s) ((l, r) ∷ []) V es bs rs → m ≡ finite.from_entries bs → finite.len m ≤ length (scope s l r)
few_binds s l r V es bs rs m ms e = no_more_than (scope s l r) m (λ x t b.
    let found = sym (finite.get-from_entries name_total bs x) ∙ ap (λ w. value_at w x) (sym e) ∙ b in
    bound_each (λ y. In y (scope s l r)) bs x (steps ms (inside s l r) (sides s l r)).4 (map_bound bs x t found))

-- a new binding is one more
pub one_bound : (m : StoreValue) (x : VarName) (t : Tree) → value_at m x ≡ None → finite.len (finite.insert m x t) ≡ finite.len m + 1
one_bound m x t n = finite.len-insert name_total m x t ∙ ap (λ o. cond (is_some o) (finite.len m) (finite.len m + 1)) n
