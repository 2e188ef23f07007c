-- Each move keeps the solutions.
use Rattle.ghc_unify.proofs.Words.{◌≡◌, ℕ, suc, ◌+◌, ◌<◌, ◌≤◌, List, [], ◌∷◌, ◌++◌, refl, sym, ap, ◌∙◌, subst, inl, inr, ◌⊎◌, arith, Option, Some, None, VarName, Tree, variable, integer, node, Trees, none, more, Occurs, OccursIn, IsValue, Leads, along, Reaches, here, through, Comes, now, on, Passes, with_binding, Pairs, no_more, one_more, Meets, integers, nodes, Move, shared, left, right, both, Moves, stay, go, with_bindings, replace, replace_all, Solves, Equates, SolutionsAreKept, Each, each_both}
use Rattle.ghc_unify.proofs.TopAgreement.{count, Alike, meet_made}
use Rattle.ghc_unify.proofs.Bound.{is_bound, moves_bound, moves_fresh, bound_is}
use Rattle.ghc_unify.proofs.Ends.{ends}
use Rattle.ghc_unify.proofs.Locality.{by_binding}

abbrev EquatesAll : (VarName → Tree) → List (Tree × Tree) → Type 0
EquatesAll s es = Each es (λ e. Equates s e.0 e.1)

all_split : (s : VarName → Tree) (es fs : List (Tree × Tree)) → EquatesAll s (es ++ fs) → EquatesAll s es × EquatesAll s fs
all_split s [] fs a = (tt, a)
all_split s (e ∷ es) fs a = let r = all_split s es fs a.1 in ((a.0, r.0), r.1)

comes_solved : {s : VarName → Tree} {T : VarName → Option Tree} {t : Tree} {xs : List VarName} {x : VarName} → Solves s T → Comes T t xs x → replace s t ≡ s x
comes_solved h now = refl
comes_solved h (on {x = z} {t = u} e c) = h z u e ∙ comes_solved h c

leads_solved : {s : VarName → Tree} {T : VarName → Option Tree} {t e : Tree} {xs : List VarName} → Solves s T → Leads T t xs e → replace s t ≡ replace s e
leads_solved h (along {x = z} {t = u} p a) = h z u p ∙ leads_solved h a
leads_solved h l = refl

solves_with : (s : VarName → Tree) (T : VarName → Option Tree) (x : VarName) (t : Tree) → Solves s T → s x ≡ replace s t → Solves s (with_binding T x t)
solves_with s T x t h e y u =
    by_binding (λ o _. o ≡ Some u → s y ≡ replace s u) T T x t y (λ p b. let v : t ≡ u = cc in ap s p ∙ e ∙ ap (replace s) v) (h y u)

solves_less : (s : VarName → Tree) (T : VarName → Option Tree) (x : VarName) (t : Tree) → T x ≡ None → Solves s (with_binding T x t) → Solves s T × (s x ≡ replace s t)
solves_less s T x t n h = (
  λ y u. by_binding (λ o _. (o ≡ Some u → s y ≡ replace s u) → T y ≡ Some u → s y ≡ replace s u) T T x t y
      (λ p _ b. let clash : None ≡ Some u = sym n ∙ ap T (sym p) ∙ b in cc) (λ g. g) (h y u),
  h x t (is_bound x (x, t) T refl),
)

pairs_split : (s : VarName → Tree) {ts us : Trees} {es : List (Tree × Tree)} → Pairs ts us es → replace_all s ts ≡ replace_all s us → EquatesAll s es
pairs_split s no_more e = tt
pairs_split s (one_more p) e = (cc, pairs_split s p (cc))

pairs_join : (s : VarName → Tree) {ts us : Trees} {es : List (Tree × Tree)} → Pairs ts us es → EquatesAll s es → replace_all s ts ≡ replace_all s us
pairs_join s no_more a = refl
pairs_join s (one_more p) a = let x = a.0 in let y = pairs_join s p a.1 in cc

meets_split : (s : VarName → Tree) {e f : Tree} {es : List (Tree × Tree)} → Meets e f es → replace s e ≡ replace s f → EquatesAll s es
meets_split s integers q = tt
meets_split s (nodes p) q = pairs_split s p (cc)

meets_join : (s : VarName → Tree) {e f : Tree} {es : List (Tree × Tree)} → Meets e f es → EquatesAll s es → replace s e ≡ replace s f
meets_join s integers a = refl
meets_join s (nodes p) a = let b = pairs_join s p a in cc

kept : {s : VarName → Tree} {S T U : VarName → Option Tree} {es fs : List (Tree × Tree)} {bs : List (VarName × Tree)} {rs : List VarName} → Move S T es U fs bs rs
    → (Solves s T × EquatesAll s es → Solves s U × EquatesAll s fs) × (Solves s U × EquatesAll s fs → Solves s T × EquatesAll s es)
kept (shared p q first) = (λ h. (h.0, h.1.1), λ h. (h.0, (comes_solved h.0 p ∙ sym (comes_solved h.0 q), h.1)))
kept {s = s} {T = T} (left {r = r} {x = x} p n o) = (
  λ h. (solves_with s T x r h.0 (sym (comes_solved h.0 p) ∙ h.1.0), h.1.1),
  λ h. let b = solves_less s T x r n h.0 in (b.0, (comes_solved b.0 p ∙ b.1, h.1)),
)
kept {s = s} {T = T} (right {l = l} {y = y} p v q n o) = (
  λ h. (solves_with s T y l h.0 (sym (comes_solved h.0 q) ∙ sym h.1.0), h.1.1),
  λ h. let b = solves_less s T y l n h.0 in (b.0, (sym (comes_solved b.0 q ∙ b.1), h.1)),
)
kept {s = s} (both {es = es} {new = new} p q apart m) = (
  λ h. (h.0, each_both new es (λ e. Equates s e.0 e.1) (meets_split s m (sym (leads_solved h.0 p) ∙ h.1.0 ∙ leads_solved h.0 q)) h.1.1),
  λ h. let r = all_split s new es h.1 in (h.0, (leads_solved h.0 p ∙ meets_join s m r.0 ∙ sym (leads_solved h.0 q), r.1)),
)

all_kept : {s : VarName → Tree} {S T V : VarName → Option Tree} {es gs : List (Tree × Tree)} {bs : List (VarName × Tree)} {rs : List VarName} → Moves S T es V gs bs rs
    → (Solves s T × EquatesAll s es → Solves s V × EquatesAll s gs) × (Solves s V × EquatesAll s gs → Solves s T × EquatesAll s es)
all_kept stay = (λ h. h, λ h. h)
all_kept (go m ms) = let a = kept m in let b = all_kept ms in (λ h. b.0 (a.0 h), λ h. a.1 (b.1 h))

-- values with one value agree at the top
count_replaced : (s : VarName → Tree) (ts : Trees) → count (replace_all s ts) ≡ count ts
count_replaced s none = refl
count_replaced s (more t ts) = ap suc (count_replaced s ts)

alike_of : (s : VarName → Tree) (e f : Tree) → IsValue e → IsValue f → replace s e ≡ replace s f → Alike e f
alike_of s (variable x) f v w q = absurd v
alike_of s e (variable y) v w q = absurd w
alike_of s (node g ts) (node f us) v w q =
    let b : replace_all s ts ≡ replace_all s us = cc in
    (cc, sym (count_replaced s ts) ∙ ap count b ∙ count_replaced s us)
alike_of s e f v w q = cc

-- how many nodes
abbrev mutual
  nodes_in : Tree → ℕ
  nodes_in (node f ts) = suc (nodes_in_all ts)
  nodes_in t = 1

  nodes_in_all : Trees → ℕ
  nodes_in_all none = 0
  nodes_in_all (more t ts) = nodes_in t + nodes_in_all ts

mutual
  -- the value of a variable is no larger than that of a tree in which it stands
  in_tree : (s : VarName → Tree) (t : Tree) (x : VarName) → Occurs x t → nodes_in (s x) ≤ nodes_in (replace s t)
  in_tree s (variable y) x o = let same : nodes_in (s x) ≡ nodes_in (s y) = ap (λ z. nodes_in (s z)) o in omega (arith, same)
  in_tree s (integer k) x o = absurd o
  in_tree s (node f ts) x o = omega (arith, in_trees s ts x o)

  in_trees : (s : VarName → Tree) (ts : Trees) (x : VarName) → OccursIn x ts → nodes_in (s x) ≤ nodes_in_all (replace_all s ts)
  in_trees s none x o = absurd o
  in_trees s (more t ts) x (inl o) = omega (arith, in_tree s t x o)
  in_trees s (more t ts) x (inr o) = omega (arith, in_trees s ts x o)

-- a variable is the tree in which it stands, or smaller
stands : (s : VarName → Tree) (t : Tree) (x : VarName) → Occurs x t → (variable x ≡ t) ⊎ (nodes_in (s x) < nodes_in (replace s t))
stands s (variable y) x o = inl (ap variable o)
stands s (integer k) x o = absurd o
stands s (node f ts) x o = inr (omega (arith, in_trees s ts x o))

-- what a tree reaches stands at the end of its chain, or is smaller
smaller : {s : VarName → Tree} {T : VarName → Option Tree} → Solves s T → (t : Tree) (x : VarName) → Reaches T t x → Passes T t x ⊎ (nodes_in (s x) < nodes_in (replace s t))
smaller {s = s} {T = T} h t x (here o) = elim (stands s t x o) [ inl e ↦ inl ([], subst (λ w. Comes T w [] x) e now) | inr less ↦ inr less ]
smaller {s = s} {T = T} h t x (through {u = u} {y = y} o e r) =
    let v : nodes_in (s y) ≡ nodes_in (replace s u) = ap nodes_in (h y u e) in
    elim (stands s t y o) [
      | inl i ↦ elim (smaller h u x r) [
        | inl p ↦ inl (y ∷ p.0, subst (λ w. Comes T w (y ∷ p.0) x) i (on e p.1))
        | inr q ↦ inr (let w : nodes_in (s y) ≡ nodes_in (replace s t) = ap (λ w. nodes_in (replace s w)) i in omega (arith, v, w, q))
      ]
      | inr less ↦ elim (smaller h u x r) [
        | inl p ↦ inr (let w : nodes_in (replace s u) ≡ nodes_in (s x) = ap nodes_in (comes_solved h p.1) in omega (arith, v, w, less))
        | inr q ↦ inr (omega (arith, v, less, q))
      ]
    ]

no_solution : (s : VarName → Tree) (T : VarName → Option Tree) (t : Tree) (x : VarName) → Solves s T → Reaches T t x → ¬ Passes T t x → ¬ (s x ≡ replace s t)
no_solution s T t x h r n e = elim (smaller h t x r) [ inl p ↦ n p | inr q ↦ let same = ap nodes_in e in absurd (omega (arith, same, q)) ]

-- a chain that ends in a value comes to no unbound variable
pub value_end : {T : VarName → Option Tree} {t e : Tree} {xs : List VarName} {x : VarName} → Leads T t xs e → IsValue e → T x ≡ None → ¬ Passes T t x
value_end {e = e} l v n p = subst IsValue (ends n l p) v

pub solutions : (S : VarName → Option Tree) (l r : Tree) → SolutionsAreKept S l r
solutions S l r = record {
  solved = λ binds reads u s.
      let run = u.2.1 in
      let k = all_kept {s = s} run in
      let is : u.2.0 ≡ with_bindings binds S = moves_bound run ∙ bound_is u.0 S (moves_fresh run) ∙ ap (λ m. with_bindings m S) (sym u.3) in
      (λ h. subst (λ W. Solves s W) is (k.0 (h.0, (h.1, tt))).0, λ h. let b = k.1 (subst (λ W. Solves s W) (sym is) h, tt) in (b.0, b.1.0));
  clash = λ c s h e.
      let now_at = (all_kept {s = s} c.6).0 (h, (e, tt)) in
      let k = c.7 in
      let m = meet_made k.2 k.3 (alike_of s k.2 k.3 k.6 k.7 (sym (leads_solved now_at.0 k.4) ∙ now_at.1.0 ∙ leads_solved now_at.0 k.5)) in
      k.9 m.0 m.1;
  cycle = λ c s h e.
      let now_at = (all_kept {s = s} c.6).0 (h, (e, tt)) in
      elim c.7 [
        | inl k ↦ no_solution s c.0 c.2 k.1 now_at.0 k.5 k.4 (sym (comes_solved now_at.0 k.2) ∙ now_at.1.0)
        | inr k ↦ no_solution s c.0 c.1 k.3 now_at.0 k.8 (value_end k.4 k.5 k.7) (sym (comes_solved now_at.0 k.6) ∙ sym now_at.1.0)
      ];
}
