-- Where the variables of a step come from: its goal, the store, or the step itself.
use Rattle.ghc_fire.proofs.Words.{◌≡◌, ℕ, suc, zero, ◌+◌, ◌<◌, true, false, cond, List, [], ◌∷◌, ◌++◌, length, map, refl, sym, ap, ◌∙◌, subst, inl, inr, ◌⊎◌, arith, Option, Some, None, slice_get, unwrap_or, filter, nat_lt, nat_tests, list_any, position_or_len, eq_by_cmp, VarName, Tree, variable, integer, node, Trees, none, more, list_of, trees, nil, cons, Occurs, OccursIn, IsValue, Expression, leaf, operation, Goal, call, unify, assign, stream, In, Leads, at_node, along, Comes, now, on, IsAcyclic, name_cmp, with_binding, StoreValue, value_at, in_left, in_right, in_either, in_at, any_in, name_total, chain, same_name, Clause, Program, is_stream, IsProgram, variables_of_list, fresh_variables, At, down, unbound, AreAlike, HeadFits, StandsFor, written, Unifies, Move, shared, left, right, both, Moves, stay, go, replace, replace_all, by_value, replace_in_expression, replace_in_goal, made, place_in, becomes, Act, ByClause as by_clause, Unified as unified, Assigned as assigned, Given as given, Closed as closed, Effect, HasEffect, IsMadeBy, ComesFrom, EffectVariables, find, find_at, slice_get_within, back_again, append_inside, meets_inside}
use Rattle.ghc_term.proofs.Names.{itself}
use Rattle.std.specs.FinMap as finite
use Rattle.std.specs.FinSet as set
use Rattle.ghc_flat.specs.Variables.{variables, variables_of_all, variables_of_expression, variables_of_goal, variables_of_goals, firsts}
use Rattle.ghc_match.specs.Position.{here}
use Rattle.ghc_fire.proofs.Replaced.{no_stream}
use Rattle.ghc_fire.proofs.Steps.{nothing, only}

mutual
  -- what stands in a tree is one of its variables
  occurs_in : (t : Tree) (x : VarName) → Occurs x t → In x (variables t)
  occurs_in (variable y) x o = inl o
  occurs_in (integer k) x o = absurd o
  occurs_in (node f ts) x o = occurs_in_all ts x o

  occurs_in_all : (ts : Trees) (x : VarName) → OccursIn x ts → In x (variables_of_all ts)
  occurs_in_all none x o = absurd o
  occurs_in_all (more t ts) x (inl o) = in_left (variables t) (variables_of_all ts) x (occurs_in t x o)
  occurs_in_all (more t ts) x (inr o) = in_right (variables t) (variables_of_all ts) x (occurs_in_all ts x o)

mutual
  pub in_occurs : (t : Tree) (x : VarName) → In x (variables t) → Occurs x t
  in_occurs (variable y) x (inl e) = e
  in_occurs (variable y) x (inr i) = absurd i
  in_occurs (integer k) x i = absurd i
  in_occurs (node f ts) x i = in_occurs_all ts x i

  in_occurs_all : (ts : Trees) (x : VarName) → In x (variables_of_all ts) → OccursIn x ts
  in_occurs_all none x i = absurd i
  in_occurs_all (more t ts) x i = elim (in_either (variables t) (variables_of_all ts) x i) [ inl j ↦ inl (in_occurs t x j) | inr j ↦ inr (in_occurs_all ts x j) ]

list_occurs : (ts : Trees) (x : VarName) → In x (variables_of_list (list_of ts)) → OccursIn x ts
list_occurs none x i = absurd i
list_occurs (more t ts) x i = elim (in_either (variables t) (variables_of_list (list_of ts)) x i) [ inl j ↦ inl (in_occurs t x j) | inr j ↦ inr (list_occurs ts x j) ]

got_in : (ts : List Tree) (i : ℕ) (t : Tree) (x : VarName) → slice_get ts i ≡ Some t → Occurs x t → In x (variables_of_list ts)
got_in [] i t x e o = let clash : None ≡ Some t = e in cc
got_in (u ∷ ts) zero t x e o = let same : t ≡ u = cc in in_left (variables u) (variables_of_list ts) x (occurs_in u x (subst (Occurs x) same o))
got_in (u ∷ ts) (suc i) t x e o = in_right (variables u) (variables_of_list ts) x (got_in ts i t x e o)

-- Q holds of the variables of the tree
abbrev pub Inside : (VarName → Type 0) → Tree → Type 0
Inside Q t = (x : VarName) → Occurs x t → Q x

module _ {S : VarName → Option Tree} {Q : VarName → Type 0} (closed : (y : VarName) (t : Tree) → S y ≡ Some t → Inside Q t) where
  leads_inside : {t e : Tree} {xs : List VarName} → Leads S t xs e → Inside Q t → Inside Q e
  leads_inside (along {x = x} {t = u} p a) i = leads_inside a (closed x u p)
  leads_inside _ i = i

  -- a sub-term at a position
  pub at_inside : {ts : List Tree} {p : List ℕ} {t : Tree} → At S ts p t → ((x : VarName) → In x (variables_of_list ts) → Q x) → Inside Q t
  at_inside (here {ts = ts} {i = i} {t = t} e) h = λ x o. h x (got_in ts i t x e o)
  at_inside (down {ts = ts} {i = i} {us = us} {t = t} e l a) h =
      let argument : Inside Q t = λ x o. h x (got_in ts i t x e o) in
      at_inside a (λ x i. leads_inside l argument x (list_occurs us x i))

-- as many arguments
abbrev SameArguments : Tree → Tree → Type 0
SameArguments (node f us) (node g vs) = length (list_of us) ≡ length (list_of vs)
SameArguments (node f us) _ = ⊥
SameArguments _ _ = Unit {0}

also_there : (hs ts : List Tree) (i : ℕ) (h : Tree) → length hs ≡ length ts → slice_get hs i ≡ Some h → (t : Tree) × (slice_get ts i ≡ Some t)
also_there [] ts i h s e = let clash : None ≡ Some h = e in cc
also_there (u ∷ hs) [] i h s e = absurd (omega (arith, s))
also_there (u ∷ hs) (t ∷ ts) zero h s e = (t, refl)
also_there (u ∷ hs) (t ∷ ts) (suc i) h s e = also_there hs ts i h (omega (arith, s)) e

-- where the head has a value, the goal's chain ends in a node of as many arguments
abbrev AllFit : (VarName → Option Tree) → List Tree → List Tree → Type 0
AllFit S hs ts = (q : List ℕ) (k u : Tree) → At unbound hs q k → IsValue k → At S ts q u → (xs : List VarName) × (e : Tree) × Leads S u xs e × SameArguments k e

module _ {S : VarName → Option Tree} where
  as_node : (f : List ℕ) (us : Trees) (r : Tree) (xs : List VarName) (w : Tree) → Leads S r xs w → SameArguments (node f us) w → (g : List ℕ) × (vs : Trees) × Leads S r xs (node g vs) × (length (list_of us) ≡ length (list_of vs))
  as_node f us r xs (node g vs) l s = (g, vs, l, s)
  as_node f us r xs _ l s = absurd s

  -- where the goal fits the head, it has each position of the head
  exists_at : {hs : List Tree} {p : List ℕ} {h : Tree} → At unbound hs p h → (ts : List Tree) → length hs ≡ length ts → AllFit S hs ts → (t : Tree) × At S ts p t
  exists_at (here {ts = hs} {i = i} {t = h} e) ts s fit = let r = also_there hs ts i h s e in (r.0, here r.1)
  exists_at (down {ts = hs} {i = i} {f = f} {us = us} {t = k} e m b) ts s fit =
      let r = also_there hs ts i k s e in
      let is : k ≡ node f us = written m in
      let here_fits = fit (i ∷ []) k r.0 (here e) (subst IsValue (sym is) tt) (here r.1) in
      let n = as_node f us r.0 here_fits.0 here_fits.1 here_fits.2 (subst (λ w. SameArguments w here_fits.1) is here_fits.3) in
      let rest = exists_at b (list_of n.1) n.3 (λ q k' u hk vk hu. fit (i ∷ q) k' u (down e m hk) vk (down r.1 n.2 hu)) in
      (rest.0, down r.1 n.2 rest.1)

stable : (a b : ℕ) → ¬ ¬ (a ≡ b) → a ≡ b
stable a b n = grind arith

same_arguments : (k e : Tree) → ¬ ¬ AreAlike k e → SameArguments k e
same_arguments (node f us) (node g vs) n = stable (length (list_of us)) (length (list_of vs)) (λ m. n (λ a. m a.1))
same_arguments (node f us) _ n = n (λ a. a)
same_arguments _ e n = tt

-- one argument more in front
shift : {ts : List Tree} {p : List ℕ} {u : Tree} (t : Tree) → At unbound ts p u → (q : List ℕ) × At unbound (t ∷ ts) q u
shift t (here {i = i} e) = (suc i ∷ [], here e)
shift t (down {i = i} {p = p} e l a) = (suc i ∷ p, down e l a)

mutual
  -- each variable of a head has a position
  place_of_tree : (t : Tree) (y : VarName) → Occurs y t → (t ≡ variable y) ⊎ ((p : List ℕ) × (f : List ℕ) × (us : Trees) × (t ≡ node f us) × At unbound (list_of us) p (variable y))
  place_of_tree (variable z) y o = inl (ap variable (sym o))
  place_of_tree (integer k) y o = absurd o
  place_of_tree (node f ts) y o = let r = place_of_trees ts y o in inr (r.0, f, ts, refl, r.1)

  place_of_trees : (ts : Trees) (y : VarName) → OccursIn y ts → (p : List ℕ) × At unbound (list_of ts) p (variable y)
  place_of_trees none y o = absurd o
  place_of_trees (more t ts) y (inl o) =
      elim (place_of_tree t y o) [
        | inl e ↦ (0 ∷ [], here (ap Some e))
        | inr r ↦ (0 ∷ r.0, down {xs = []} (ap Some r.3) at_node r.4)
      ]
  place_of_trees (more t ts) y (inr o) = let r = place_of_trees ts y o in shift t r.1

-- each variable of a list stands in it first
pub firsts_have : (seen xs : List VarName) (y : VarName) → In y xs → In y seen ⊎ In y (firsts seen xs)
firsts_have seen [] y i = absurd i
firsts_have seen (x ∷ xs) y i =
    elim (list_any (eq_by_cmp name_cmp x) seen) as (λ b. list_any (eq_by_cmp name_cmp x) seen ≡ b → In y seen ⊎ In y (cond b (firsts seen xs) (x ∷ firsts (x ∷ seen) xs))) [
      | true ↦ λ p. elim i [
        | inl e ↦ inl (subst (λ z. In z seen) (sym e) (any_in x seen p))
        | inr j ↦ firsts_have seen xs y j
      ]
      | false ↦ λ p. elim i [
        | inl e ↦ inr (inl e)
        | inr j ↦ elim (firsts_have (x ∷ seen) xs y j) [
          | inl k ↦ elim k [ inl e ↦ inr (inl e) | inr l ↦ inl l ]
          | inr k ↦ inr (inr k)
        ]
      ]
    ] refl

-- the place of a variable in a list is where it stands
pub place_got : (xs : List VarName) (y : VarName) → In y xs → (i : ℕ) × (place_in xs y ≡ i + 1) × (slice_get xs i ≡ Some y)
place_got xs y i =
    let n = position_or_len (eq_by_cmp name_cmp y) xs in
    let got : slice_get xs n ≡ Some y = sym (find_at (eq_by_cmp name_cmp y) xs) ∙ found xs i in
    (n, passed n (slice_get_within xs n y got), got)
  where
    found : (xs : List VarName) → In y xs → find (eq_by_cmp name_cmp y) xs ≡ Some y
    found [] i = absurd i
    found (x ∷ xs) i =
        elim (eq_by_cmp name_cmp y x) as (λ b. eq_by_cmp name_cmp y x ≡ b → cond b (Some x) (find (eq_by_cmp name_cmp y) xs) ≡ Some y) [
          | true ↦ λ p. ap Some (sym (same_name y x p))
          | false ↦ λ p. elim i [
            | inl e ↦
                let yes : eq_by_cmp name_cmp y x ≡ true = ap (eq_by_cmp name_cmp y) (sym e) ∙ itself y in
                let clash : true ≡ false = sym yes ∙ p in
                cc
            | inr j ↦ found xs j
          ]
        ] refl

    passed : (n : ℕ) → n < length xs → unwrap_or (cond (nat_lt n (length xs)) (Some n) None) 0 + 1 ≡ n + 1
    passed n l = elim (nat_lt n (length xs)) as (λ b. nat_lt n (length xs) ≡ b → unwrap_or (cond b (Some n) None) 0 + 1 ≡ n + 1) [
      | true ↦ λ p. refl
      | false ↦ λ p. absurd (grind (arith, nat_tests, p, l))
    ] refl

mutual
  -- a variable of a replaced tree comes from one that was replaced
  replaced : (s : VarName → Tree) (t : Tree) (x : VarName) → Occurs x (replace s t) → (y : VarName) × Occurs y t × Occurs x (s y)
  replaced s (variable y) x o = (y, refl, o)
  replaced s (integer k) x o = absurd o
  replaced s (node f ts) x o = replaced_all s ts x o

  replaced_all : (s : VarName → Tree) (ts : Trees) (x : VarName) → OccursIn x (replace_all s ts) → (y : VarName) × OccursIn y ts × Occurs x (s y)
  replaced_all s none x o = absurd o
  replaced_all s (more t ts) x (inl o) = let r = replaced s t x o in (r.0, inl r.1, r.2)
  replaced_all s (more t ts) x (inr o) = let r = replaced_all s ts x o in (r.0, inr r.1, r.2)

tree_replaced : (s : VarName → Tree) (t : Tree) (x : VarName) → In x (variables (replace s t)) → (y : VarName) × In y (variables t) × Occurs x (s y)
tree_replaced s t x i = let r = replaced s t x (in_occurs (replace s t) x i) in (r.0, occurs_in t r.0 r.1, r.2)

-- what comes from either of two lists comes from both
from_either : {R : VarName → Type 0} (us vs xs ys : List VarName) (x : VarName) → (In x us → (y : VarName) × In y xs × R y)
    → (In x vs → (y : VarName) × In y ys × R y) → In x (us ++ vs) → (y : VarName) × In y (xs ++ ys) × R y
from_either us vs xs ys x f g i = elim (in_either us vs x i) [
  | inl j ↦ let r = f j in (r.0, in_left xs ys r.0 r.1, r.2)
  | inr j ↦ let r = g j in (r.0, in_right xs ys r.0 r.1, r.2)
]

expression_replaced : (s : VarName → Tree) (a : Expression) (x : VarName) → In x (variables_of_expression (replace_in_expression s a)) → (y : VarName) × In y (variables_of_expression a) × Occurs x (s y)
expression_replaced s (leaf t) x i = tree_replaced s t x i
expression_replaced s (operation o a b) x i = from_either _ _ _ _ x (expression_replaced s a x) (expression_replaced s b x) i

list_replaced : (s : VarName → Tree) (ts : List Tree) (x : VarName) → In x (variables_of_list (map (replace s) ts)) → (y : VarName) × In y (variables_of_list ts) × Occurs x (s y)
list_replaced s [] x i = absurd i
list_replaced s (t ∷ ts) x i = from_either _ _ (variables t) (variables_of_list ts) x (tree_replaced s t x) (λ j. list_replaced s ts x j) i

-- the goal is no stream goal
abbrev IsPlain : Goal → Type 0
IsPlain g = is_stream g ≡ false

goal_replaced : (s : VarName → Tree) (g : Goal) (x : VarName) → IsPlain g → In x (variables_of_goal (replace_in_goal s g)) → (y : VarName) × In y (variables_of_goal g) × Occurs x (s y)
goal_replaced s (call f ts) x p i = list_replaced s ts x i
goal_replaced s (unify l r) x p i = from_either _ _ (variables l) (variables r) x (tree_replaced s l x) (tree_replaced s r x) i
goal_replaced s (assign t a) x p i = from_either _ _ (variables t) (variables_of_expression a) x (tree_replaced s t x) (expression_replaced s a x) i
goal_replaced s (stream k z) x p i = let clash : true ≡ false = p in cc

goals_replaced : (s : VarName → Tree) (gs : List Goal) (x : VarName) → filter is_stream gs ≡ [] → In x (variables_of_goals (map (replace_in_goal s) gs)) → (y : VarName) × In y (variables_of_goals gs) × Occurs x (s y)
goals_replaced s [] x p i = absurd i
goals_replaced s (g ∷ gs) x p i =
    let plain = no_stream g gs p in
    from_either _ _ (variables_of_goal g) (variables_of_goals gs) x (goal_replaced s g x plain.0) (goals_replaced s gs x plain.1) i

-- the bindings of a run stay inside
abbrev AllInside : (VarName → Type 0) → List (Tree × Tree) → Type 0
AllInside Q [] = Unit {0}
AllInside Q (e ∷ es) = Inside Q e.0 × Inside Q e.1 × AllInside Q es

abbrev BindsInside : (VarName → Type 0) → List (VarName × Tree) → Type 0
BindsInside Q [] = Unit {0}
BindsInside Q (b ∷ bs) = Q b.0 × Inside Q b.1 × BindsInside Q bs

abbrev ValuesInside : (VarName → Type 0) → (VarName → Option Tree) → Type 0
ValuesInside Q T = (y : VarName) (t : Tree) → T y ≡ Some t → Inside Q t

comes_inside : {Q : VarName → Type 0} {T : VarName → Option Tree} {t : Tree} {xs : List VarName} {y : VarName} → ValuesInside Q T → Comes T t xs y → Inside Q t → Q y
comes_inside v (now {x = x}) i = i x refl
comes_inside v (on {x = x} {t = u} e c) i = comes_inside v c (v x u e)

with_inside : (Q : VarName → Type 0) (T : VarName → Option Tree) (x : VarName) (t : Tree) → ValuesInside Q T → Inside Q t → ValuesInside Q (with_binding T x t)
with_inside Q T x t v i y u =
    elim (eq_by_cmp name_cmp y x) as (λ c. cond c (Some t) (T y) ≡ Some u → Inside Q u) [
      | true ↦ λ e. let same : t ≡ u = cc in subst (Inside Q) same i
      | false ↦ λ e. v y u e
    ]

binds_append : (Q : VarName → Type 0) (bs cs : List (VarName × Tree)) → BindsInside Q bs → BindsInside Q cs → BindsInside Q (bs ++ cs)
binds_append Q [] cs i j = j
binds_append Q (b ∷ bs) cs i j = (i.0, i.1, binds_append Q bs cs i.2 j)

move_inside : {Q : VarName → Type 0} {S T U : VarName → Option Tree} {es fs : List (Tree × Tree)} {bs : List (VarName × Tree)} {rs : List VarName} → Move S T es U fs bs rs
    → ValuesInside Q T → AllInside Q es → ValuesInside Q U × AllInside Q fs × BindsInside Q bs
move_inside (shared p q f) v i = (v, i.2, tt)
move_inside {Q = Q} {T = T} (left {r = r} {x = x} p n o) v i = (with_inside Q T x r v i.1, i.2, (comes_inside v p i.0, i.1, tt))
move_inside {Q = Q} {T = T} (right {l = l} {y = y} k w p n o) v i = (with_inside Q T y l v i.0, i.2, (comes_inside v p i.1, i.0, tt))
move_inside {Q = Q} (both {es = es} {new = new} p q apart m) v i = (v, append_inside Q new es (meets_inside m (leads_inside v p i.0) (leads_inside v q i.1)) i.2, tt)

moves_inside : {Q : VarName → Type 0} {S T V : VarName → Option Tree} {es gs : List (Tree × Tree)} {bs : List (VarName × Tree)} {rs : List VarName} → Moves S T es V gs bs rs
    → ValuesInside Q T → AllInside Q es → BindsInside Q bs
moves_inside stay v i = tt
moves_inside {Q = Q} (go {bs = bs} {cs = cs} m ms) v i = let one = move_inside m v i in binds_append Q bs cs one.2 (moves_inside ms one.0 one.1)

found_inside : {Q : VarName → Type 0} (bs : List (VarName × Tree)) (x : VarName) (t : Tree) → BindsInside Q bs → finite.find name_cmp x bs ≡ Some t → Q x × Inside Q t
found_inside [] x t i e = let clash : None ≡ Some t = e in cc
found_inside {Q = Q} (b ∷ bs) x t i e =
    elim (eq_by_cmp name_cmp x b.0) as (λ c. eq_by_cmp name_cmp x b.0 ≡ c → cond c (Some b.1) (finite.find name_cmp x bs) ≡ Some t → Q x × Inside Q t) [
      | true ↦ λ p q. let same : b.1 ≡ t = cc in (subst Q (sym (same_name x b.0 p)) i.0, subst (Inside Q) same i.1)
      | false ↦ λ p q. found_inside bs x t i.2 q
    ] refl e

unifies_inside : {Q : VarName → Type 0} (S : VarName → Option Tree) (l r : Tree) (binds : StoreValue) (reads : set.FinSet name_cmp) → Unifies S l r binds reads → ValuesInside Q S → Inside Q l → Inside Q r
    → (x : VarName) (t : Tree) → value_at binds x ≡ Some t → Q x × Inside Q t
unifies_inside S l r binds reads u v i j x t e =
    found_inside u.0 x t (moves_inside u.2.1 v (i, j, tt)) (sym (finite.get-from_entries name_total u.0 x) ∙ ap (λ m. value_at m x) (sym u.3) ∙ e)

-- what the only binding binds
only_inside : {Q : VarName → Type 0} (m : StoreValue) (x : VarName) (t : Tree) → m ≡ finite.insert finite.empty x t → Q x → Inside Q t → (y : VarName) (u : Tree) → value_at m y ≡ Some u → Q y × Inside Q u
only_inside {Q = Q} m x t p q i y u e = let o = only t m p y u e in (subst Q (sym o.0) q, subst (Inside Q) o.1 i)

module _ (s : StoreValue) (acyclic : IsAcyclic (value_at s)) (c : Clause) (ts : List Tree) (same_length : length c.head ≡ length ts) (fits : HeadFits c ts (value_at s)) where
  head_fits : AllFit (value_at s) c.head ts
  head_fits q k u hk vk hu =
      let end_of = chain (finite.len s) s (omega arith) acyclic u in
      ended q k u hk vk hu end_of.passed end_of.«end» end_of.leads where
        ended : (q : List ℕ) (k u : Tree) → At unbound c.head q k → IsValue k → At (value_at s) ts q u → (xs : List VarName) (e : Tree) → Leads (value_at s) u xs e → (xs : List VarName) × (e : Tree) × Leads (value_at s) u xs e × SameArguments k e
        ended q k u hk vk hu xs (variable x) l = absurd (fits.1 x (q, k, u, xs, (hk, vk), hu, l))
        ended q k u hk vk hu xs (integer j) l = (xs, integer j, l, same_arguments k (integer j) (λ n. fits.0 (q, k, u, integer j, xs, (hk, vk), hu, l, tt, n)))
        ended q k u hk vk hu xs (node g vs) l = (xs, node g vs, l, same_arguments k (node g vs) (λ n. fits.0 (q, k, u, node g vs, xs, (hk, vk), hu, l, tt, n)))

  -- each variable of the head stands for something
  pub stands : (y : VarName) → In y (variables_of_list c.head) → (t : Tree) × StandsFor c ts (value_at s) y t
  stands y i =
      let p = place_of_trees (trees c.head) y (list_occurs (trees c.head) y (subst (λ l. In y (variables_of_list l)) (back_again c.head) i)) in
      let a = subst (λ l. At unbound l p.0 (variable y)) (sym (back_again c.head)) p.1 in
      let t = exists_at a ts same_length head_fits in
      (t.0, (p.0, a, t.1))

pub stays_inside : (P : Program) (g : Goal) (a : Act) (n : ℕ) (s : StoreValue) (e : Effect) (Q : VarName → Type 0) → IsProgram P → IsAcyclic (value_at s)
    → HasEffect P g a n (value_at s) e → ((x : VarName) → In x (variables_of_goal g) → Q x)
    → ((y : VarName) (t : Tree) → value_at s y ≡ Some t → (x : VarName) → Occurs x t → Q x) → ((x : VarName) → IsMadeBy n e x → Q x)
    → ((x : VarName) (t : Tree) → value_at e.binds x ≡ Some t → Q x × ((y : VarName) → Occurs y t → Q y)) × ((x : VarName) → In x (variables_of_goals e.makes) → Q x)
stays_inside P (call f ts) (by_clause k) n s e Q program acyclic d goal values fresh =
    let c = d.0 in
    let theta = d.1 in
    let ok = program c (in_at P d.2.0 c d.2.2) in (
      λ x t b. absurd (nothing e.binds d.5 x t b),
      λ x i.
          let o = goals_replaced (becomes c theta n) c.body x ok.closed (subst (λ gs. In x (variables_of_goals gs)) d.6 i) in
          by_value (value_at theta o.0)
          (λ none.
          let it : x ≡ made n (place_in (fresh_variables c) o.0) = subst (λ z. Occurs x (unwrap_or z (variable (made n (place_in (fresh_variables c) o.0))))) none o.2 in
          elim (firsts_have (variables_of_list c.head) (variables_of_goals c.body) o.0 o.1) [
            | inl h ↦
                let t = stands s acyclic c ts d.3.1 d.4.0.0 o.0 h in
                let clash : None ≡ Some t.0 = sym none ∙ (d.4.1 o.0 t.0).1 t.1 in
                cc
            | inr h ↦
                let p = place_got (fresh_variables c) o.0 h in
                let le = slice_get_within (fresh_variables c) p.0 o.0 p.2 in
                fresh x (ap (λ z. z.step) it, omega (arith, ap (λ z. z.place) it), omega (arith, ap (λ z. z.place) it, p.1, le, d.7))
          ])
          (λ t is. at_inside values ((d.4.1 o.0 t).0 is).2 goal x (subst (λ z. Occurs x (unwrap_or z (variable (made n (place_in (fresh_variables c) o.0))))) is o.2)),
    )
stays_inside P (unify l r) unified n s e Q program acyclic d goal values fresh = (
  unifies_inside (value_at s) l r e.binds e.reads d.0 values (λ x o. goal x (in_left (variables l) (variables r) x (occurs_in l x o))) (λ x o. goal x (in_right (variables l) (variables r) x (occurs_in r x o))),
  λ x i. absurd (subst (λ gs. In x (variables_of_goals gs)) d.1 i),
)
stays_inside P (assign t a) assigned n s e Q program acyclic d goal values fresh = (
  unifies_inside (value_at s) t (integer d.0) e.binds d.1 d.3 values (λ x o. goal x (in_left (variables t) (variables_of_expression a) x (occurs_in t x o))) (λ x o. absurd o),
  λ x i. absurd (subst (λ gs. In x (variables_of_goals gs)) d.5 i),
)
stays_inside P (stream k z) (given u) n s e Q program acyclic d goal values fresh =
    let new : Q (made n 1) = fresh (made n 1) (refl, omega arith, omega (arith, d.5)) in (
      only_inside e.binds d.0 (cons u (variable (made n 1))) d.3 (comes_inside values d.2.1 (λ x o. goal x (inl o)))
          (λ x o. elim o [ inl i ↦ absurd (d.1 x i) | inr j ↦ elim j [ inl p ↦ subst Q (sym p) new | inr q ↦ absurd q ] ]),
      λ x i. elim (subst (λ gs. In x (variables_of_goals gs)) d.4 i) [ inl p ↦ subst Q (sym p) new | inr q ↦ absurd q ],
    )
stays_inside P (stream k z) closed n s e Q program acyclic d goal values fresh = (
  only_inside e.binds d.0 nil d.2 (comes_inside values d.1.1 (λ x o. goal x (inl o))) (λ x o. absurd o),
  λ x i. absurd (subst (λ gs. In x (variables_of_goals gs)) d.3 i),
)
stays_inside P g a n s e Q program acyclic d goal values fresh = absurd d

pub variables_come : EffectVariables
variables_come P g a n s e program acyclic d =
    let r = stays_inside P g a n s e (ComesFrom n g (value_at s) e) program acyclic d (λ x i. inl i) (λ y t b x o. inr (inl (y, t, b, o))) (λ x m. inr (inr m)) in
    record { bound = r.0; made = r.1 }
