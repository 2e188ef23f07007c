-- The positions of a head, one by one.
use Rattle.ghc_match.proofs.Words.{◌≡◌, ℕ, zero, suc, ◌+◌, List, [], ◌∷◌, ◌++◌, map, refl, sym, ap, subst, inl, inr, arith, Option, Some, slice_get, VarName, Tree, variable, integer, node, Trees, none, more, list_of, trees, IsValue, In, Leads, name_cmp, in_left, in_right, in_map, in_at, leads_once, place_of, At, here, down, unbound}
use Rattle.std.specs.FinMap as finite
use Rattle.ghc_match.proofs.Chains.{written}

-- a position and what stands there
abbrev pub Place : Type 0
Place = List ℕ × Tree

-- h is listed at the position p
abbrev pub Listed : List ℕ → Tree → List (List ℕ × Tree) → Type 0
Listed p h es = In {X = List ℕ × Tree} (p, h) es

abbrev mutual
  -- the positions within a tree
  pub below : Tree → List (List ℕ × Tree)
  below (variable _) = []
  below (integer _) = []
  below (node _ ts) = along_from 0 ts

  -- the positions among arguments, the first of which has the number i
  pub along_from : ℕ → Trees → List (List ℕ × Tree)
  along_from i none = []
  along_from i (more t ts) = (i ∷ [], t) ∷ (map (λ e. (i ∷ e.0, e.1)) (below t) ++ along_from (i + 1) ts)

-- the positions of a head
abbrev pub places : List Tree → List (List ℕ × Tree)
places hs = along_from 0 (trees hs)

-- what stands among the arguments, and below it
among : (ts : Trees) (k i j : ℕ) (t : Tree) → k + i ≡ j → slice_get (list_of ts) i ≡ Some t → Listed (j ∷ []) (t) (along_from k ts) × ((e : Place) → In e (below t) → Listed (j ∷ e.0) (e.1) (along_from k ts))
among none k i j t s e = cc
among (more u ts) k zero j t s e =
    let same : u ≡ t = cc in
    let place : k ≡ j = omega (arith, s) in (
      inl (λ n. (sym place n ∷ [], sym same n)),
      λ p q. inr (in_left (map (λ e. (k ∷ e.0, e.1)) (below u)) (along_from (k + 1) ts) (j ∷ p.0, p.1)
          (subst (λ n. Listed (n ∷ p.0) (p.1) (map (λ e. (k ∷ e.0, e.1)) (below u))) place (in_map (λ e. (k ∷ e.0, e.1)) (below u) p (subst (λ w. In p (below w)) (sym same) q)))),
    )
among (more u ts) k (suc i) j t s e =
    let rest = among ts (k + 1) i j t (omega (arith, s)) e in
    let right = in_right (map (λ e. (k ∷ e.0, e.1)) (below u)) (along_from (k + 1) ts) in
    (inr (right (j ∷ [], t) rest.0), λ p q. inr (right (j ∷ p.0, p.1) (rest.1 p q)))

-- a position holds one tree
pub at_once : {S : VarName → Option Tree} {ts : List Tree} {p : List ℕ} {t u : Tree} → At S ts p t → At S ts p u → t ≡ u
at_once (here e) (here g) = cc
at_once (here e) (down g l a) = elim a [ ]
at_once (down e m b) (here g) = elim b [ ]
at_once {S = S} (down {p = p} {f = f} {us = us} {t = s} {u = t} e m b) (down {xs = zs} {f = k} {us = vs} {t = r} {u = u} g l a) =
    let same : r ≡ s = cc in
    let one : node f us ≡ node k vs = (leads_once m (subst (λ w. Leads S w zs (node k vs)) same l)).1 in
    let arguments : vs ≡ us = cc in
    at_once b (subst (λ w. At S (list_of w) p u) arguments a)

-- a variable's name
pub same_variable : {x y : VarName} → variable x ≡ variable y → x ≡ y
same_variable e = cc

-- a value is no variable
pub value_not : {x : VarName} {e : Tree} → e ≡ variable x → ¬ IsValue e
value_not p v = subst IsValue p v

-- each position is one of those listed
listed : (us : Trees) {ts : List Tree} {p : List ℕ} {h : Tree} → At unbound ts p h → ts ≡ list_of us → Listed p h (along_from 0 us)
listed us (here {i = i} {t = t} e) s = (among us 0 i i t (omega arith) (subst (λ l. slice_get l i ≡ Some t) s e)).0
listed us (down {i = i} {p = p} {us = vs} {t = t} {u = u} e l a) s =
    (among us 0 i i t (omega arith) (subst (λ l. slice_get l i ≡ Some t) s e)).1 (p, u) (subst (λ w. Listed p u (below w)) (sym (written l)) (listed vs a refl))

pub back_again : (hs : List Tree) → hs ≡ list_of (trees hs)
back_again [] = refl
back_again (h ∷ hs) = ap (λ l. h ∷ l) (back_again hs)

pub all_places : (hs : List Tree) {p : List ℕ} {h : Tree} → At unbound hs p h → Listed p h (places hs)
all_places hs a = listed (trees hs) a (back_again hs)

-- what is found under a name is one of the entries
pub entry_in : (es : List (VarName × Tree)) (y : VarName) (t : Tree) → finite.find name_cmp y es ≡ Some t → In {X = VarName × Tree} (y, t) es
entry_in es y t e = let p = place_of y t es e in in_at es p.0 (y, t) p.2
