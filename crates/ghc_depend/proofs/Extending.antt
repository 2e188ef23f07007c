-- A step has the same effect in each store that has more bindings, where these leave alone what the step binds, and close no cycle with it.
use Rattle.ghc_depend.proofs.Words.{◌≡◌, ℕ, cond, refl, sym, ap, ◌∙◌, subst, inl, inr, ◌⊎◌, Option, Some, None, IsTrue, option_or, VarName, Tree, integer, Goal, call, unify, assign, stream, In, IsAcyclic, name_cmp, StoreValue, value_at, leads_once, leads_agree, name_total, set_of, Program, leaf_variables, EndsIn, accepts, number_there, outcome_there, Unifies, with_bindings, by_value, comes_more, all_extend, bound_by, moves_fresh, has_value, unbound_before, itself, bound_is, Act, ByClause as by_clause, Unified as unified, Assigned as assigned, Given as given, Closed as closed, Effect, HasEffect, IsOnChainsOf, ReadsTail, effect_local, effect_binds, bound_to, number_ends}
use Rattle.std.specs.FinMap as finite
use Rattle.std.specs.FinSet as set
use Rattle.ghc_unify.proofs.Bound.{IsBoundIn}

-- S' has the bindings of S, leaves alone what is bound, and closes no cycle with it
pub record IsMore (binds : StoreValue) (S S' : VarName → Option Tree) : Type 0 where
  pub more : (x : VarName) (t : Tree) → S x ≡ Some t → S' x ≡ Some t
  pub free : (x : VarName) (t : Tree) → value_at binds x ≡ Some t → S' x ≡ None
  pub acyclic : IsAcyclic (with_bindings binds S')

module _ (S S' : VarName → Option Tree) (binds : StoreValue) (m : IsMore binds S S') where
  over : (x : VarName) (t : Tree) → with_bindings binds S x ≡ Some t → with_bindings binds S' x ≡ Some t
  over x t = elim (value_at binds x) as (λ o. option_or o (S x) ≡ Some t → option_or o (S' x) ≡ Some t) [ None ↦ λ e. m.more x t e | Some u ↦ λ e. e ]

  unifies_more : (l r : Tree) (reads : set.FinSet name_cmp) → Unifies S l r binds reads → Unifies S' l r binds reads
  unifies_more l r reads u =
      let bs = u.0 in
      let fresh = moves_fresh u.2.1 in
      let is : bound_by bs S ≡ with_bindings binds S = bound_is bs S fresh ∙ ap (λ b. with_bindings b S) (sym u.3) in
      let unbound : (x : VarName) → IsBoundIn bs x → S' x ≡ None = λ x i.
      let v = has_value bs S x i in
      by_value (value_at binds x)
      (λ n. let clash : None ≡ Some v.0 = sym (unbound_before bs S x fresh i) ∙ ap (λ o. option_or o (S x)) (sym n) ∙ sym (ap (λ T. T x) is) ∙ v.1 in cc)
      (λ t b. m.free x t b) in
      let run = all_extend m.acyclic u.2.1 (record {
        more = m.more;
        old = m.more;
        new = λ x t n e. let clash : None ≡ Some t = sym n ∙ e in cc;
        none = λ x n k. k;
        within = λ x t e. by_value (value_at binds x) (λ n. ap (λ o. option_or o (S' x)) n ∙ e) (λ v b. let clash : None ≡ Some t = sym (m.free x v b) ∙ e in cc);
      }) (bound_to bs S fresh S' (with_bindings binds S') unbound (λ x t e. over x t (sym (ap (λ T. T x) is) ∙ e))) in
      (bs, u.1, run, u.3, u.4)

-- the reads of a tail are those of its chain in each store that has them and leaves its end open
tail_more : {s x : VarName} {S S' : VarName → Option Tree} (e : Effect) → ReadsTail s S x e → ((y : VarName) (t : Tree) → S y ≡ Some t → S' y ≡ Some t) → S' x ≡ None → ReadsTail s S' x e
tail_more e r more open_end = (r.0, comes_more r.1 more, open_end, r.3)

-- the only binding is a binding
bound_alone : (x : VarName) (t : Tree) (m : StoreValue) → m ≡ finite.insert finite.empty x t → value_at m x ≡ Some t
bound_alone x t m e = ap (λ z. value_at z x) e ∙ finite.get-insert name_total finite.empty x t x ∙ ap (λ b. cond b (Some t) (value_at finite.empty x)) (itself x x refl)

module _ (P : Program) (n : ℕ) (S S' : VarName → Option Tree) (e : Effect) (m : IsMore e.binds S S') where
  pub effect_more : (g : Goal) (a : Act) → HasEffect P g a n S e → HasEffect P g a n S' e
  effect_more g a d = moved g a d (λ x i. let b = (effect_binds P g a n S e d).reads_bound x i in m.more x b.0 b.1 ∙ sym b.1)
    where
      moved : (g : Goal) (a : Act) → HasEffect P g a n S e → ((x : VarName) → IsTrue (set.contains e.reads x) → S' x ≡ S x) → HasEffect P g a n S' e
      moved (call f ts) (by_clause k) d kept =
          let o = d.4 in (d.0, d.1, d.2, d.3, outcome_there d.0 ts S S' (accepts d.1 e.reads) o (λ x l. kept x ((o.2 x).1 l)), d.5, d.6, d.7)
      moved (unify l r) unified d kept = (unifies_more S S' e.binds m l r e.reads d.0, d.1, d.2)
      moved (assign t a) assigned d kept =
          let reads = d.4 in
          let ends : (y : VarName) (z : Tree) → In y (leaf_variables a) → EndsIn S y z → EndsIn S' y z =
          λ y z i l. (l.0, leads_agree l.1 (λ x j. kept x ((reads x).1 (inl (y, z, l.0, i, l.1, j))))) in
          let there : (x : VarName) → IsOnChainsOf S a x → IsOnChainsOf S' a x = λ x o. let l = ends o.0 o.1 o.3 (o.2, o.4) in (o.0, o.1, o.2, o.3, l.1, o.5) in
          let back : (x : VarName) → IsOnChainsOf S' a x → IsOnChainsOf S a x = λ x o.
          let k = number_ends d.2 o.3 in
          let l = ends o.0 (integer k.0) o.3 k.1 in
          (o.0, integer k.0, k.1.0, o.3, k.1.1, subst (λ zs. In x zs) (leads_once o.4 l.1).0 o.5) in (
            d.0,
            d.1,
            number_there d.2 ends,
            unifies_more S S' e.binds m t (integer d.0) d.1 d.3,
            set_of e.reads (λ x. IsOnChainsOf S a x ⊎ IsTrue (set.contains d.1 x)) (λ x. IsOnChainsOf S' a x ⊎ IsTrue (set.contains d.1 x))
                (λ x p. elim p [ inl o ↦ inl (there x o) | inr i ↦ inr i ]) (λ x p. elim p [ inl o ↦ inl (back x o) | inr i ↦ inr i ]) reads,
            d.5,
            d.6,
          )
      moved (stream k s) (given u) d kept = (d.0, d.1, tail_more e d.2 m.more (m.free d.0 _ (bound_alone d.0 _ e.binds d.3)), d.3, d.4, d.5)
      moved (stream k s) closed d kept = (d.0, tail_more e d.1 m.more (m.free d.0 _ (bound_alone d.0 _ e.binds d.2)), d.2, d.3, d.4)
      moved g a d kept = absurd d

-- what both stores bind
abbrev common : Option Tree → Option Tree → Option Tree
common None o = None
common (Some t) o = o

abbrev Meet : (VarName → Option Tree) → (VarName → Option Tree) → VarName → Option Tree
Meet S S' x = common (S' x) (S x)

-- S and S' are parts of one store, agree on what is read, and S' leaves alone what is bound, and closes no cycle with it
pub record IsElsewhere (F : VarName → Option Tree) (e : Effect) (S S' : VarName → Option Tree) : Type 0 where
  pub part : (x : VarName) (t : Tree) → S x ≡ Some t → F x ≡ Some t
  pub other_part : (x : VarName) (t : Tree) → S' x ≡ Some t → F x ≡ Some t
  pub reads : (x : VarName) → IsTrue (set.contains e.reads x) → S' x ≡ S x
  pub free : (x : VarName) (t : Tree) → value_at e.binds x ≡ Some t → S' x ≡ None
  pub acyclic : IsAcyclic (with_bindings e.binds S')

meet_left : (a b : Option Tree) (t : Tree) → common a b ≡ Some t → b ≡ Some t
meet_left None b t e = cc
meet_left (Some u) b t e = e

meet_right : (a b f : Option Tree) (t : Tree) → common a b ≡ Some t → ((u : Tree) → a ≡ Some u → f ≡ Some u) → ((u : Tree) → b ≡ Some u → f ≡ Some u) → a ≡ Some t
meet_right None b f t e p q = cc
meet_right (Some u) b f t e p q = sym (p u refl) ∙ q t e

meet_same : (a b : Option Tree) → a ≡ b → common a b ≡ b
meet_same None b e = e
meet_same (Some u) b e = refl

-- a step has the same effect there
pub effect_elsewhere : (P : Program) (g : Goal) (a : Act) (n : ℕ) (F S S' : VarName → Option Tree) (e : Effect) → HasEffect P g a n S e → IsElsewhere F e S S' → HasEffect P g a n S' e
effect_elsewhere P g a n F S S' e d h =
    effect_more P n (Meet S S') S' e (record {
      more = λ x t m. meet_right (S' x) (S x) (F x) t m (h.other_part x) (h.part x);
      free = h.free;
      acyclic = h.acyclic;
    }) g a (effect_local P g a n S (Meet S S') e d (record {
      less = λ x t m. meet_left (S' x) (S x) t m;
      kept = λ x i. meet_same (S' x) (S x) (h.reads x i);
    }))
