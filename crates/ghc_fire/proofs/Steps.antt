-- Effects: local, one at most, of what was unbound and bound.
use Rattle.ghc_fire.proofs.Words.{◌≡◌, ℕ, ℤ, true, false, cond, List, [], ◌∷◌, length, refl, sym, ap, ◌∙◌, subst, inl, inr, ◌⊎◌, Option, Some, None, IsTrue, option_or, eq_by_cmp, VarName, Tree, variable, integer, nil, cons, Expression, call, unify, assign, stream, In, Reaches, here, through, IsAcyclic, name_cmp, with_binding, StoreValue, value_at, name_total, same_name, leads_once, leads_agree, in_either, Clause, Program, IsClause, leaf_variables, fresh_variables, Variables, EndsIn, Number, of_integer, of_variable, computed, HasOutcome, accepts, LooksAt, Accepts, in_set, set_in, one_set, set_of, number_there, number_once, ends_once, outcome_there, outcomes_exclude, Unifies, solved, with_bindings, IsCutDown, BindsAndReads, by_value, comes_agree, passed_on, comes_reaches, leads_bound, comes_leads, binding_acyclic, by_answers, comes_end, is_local, one_ending, keeps_acyclic, binds_and_reads, made, body_made, ByClause as by_clause, Unified as unified, Assigned as assigned, Given as given, Closed as closed, Effect, IsOnChainsOf, Reduces, ReadsTail, IsClosed, EffectIsLocal, EffectIsOfWhatItRead, EffectIsOne, EffectBindsAndReads, EffectUnderEachNumber, EffectKeepsAcyclic}
pub use Rattle.ghc_flat.proofs.Numbers.{clause_once}
use Rattle.std.specs.FinMap as finite
use Rattle.std.specs.FinSet as set

-- each variable of an expression with a value ends in an integer
pub number_ends : {E : VarName → Tree → Type 0} {a : Expression} {k : ℤ} {y : VarName} → Number E a k → In y (leaf_variables a) → (j : ℤ) × E y (integer j)
number_ends of_integer i = absurd i
number_ends {E = E} (of_variable {x = x} {k = k} p) (inl e) = (k, subst (λ z. E z (integer k)) (sym e) p)
number_ends (of_variable p) (inr i) = absurd i
number_ends {y = y} (computed {a = a} {b = b} m n c) i = elim (in_either (leaf_variables a) (leaf_variables b) y i) [ inl j ↦ number_ends m j | inr j ↦ number_ends n j ]

-- the reads of a tail are those of its chain in each store that has them
tail_local : {s x : VarName} {S S' : VarName → Option Tree} (e : Effect) → ReadsTail s S x e → IsCutDown (λ y. IsTrue (set.contains e.reads y)) S S' → ReadsTail s S' x e
tail_local {x = x} {S' = S'} e r c = (
  r.0,
  comes_agree r.1 (λ y i. c.kept y (subst (λ z. IsTrue (set.contains z y)) (sym r.3) (in_set y r.0 i))),
  by_value (S' x) (λ n. n) (λ t b. let clash : None ≡ Some t = sym r.2 ∙ c.less x t b in cc),
  r.3,
)

pub effect_of_reads : EffectIsOfWhatItRead
effect_of_reads P (call f ts) k n S S' e d same =
    let o = d.4 in (d.0, d.1, d.2, d.3, outcome_there d.0 ts S S' (accepts d.1 e.reads) o (λ x l. same x ((o.2 x).1 l)), d.5, d.6, d.7)
effect_of_reads P (unify l r) k n S S' e d same = absurd d
effect_of_reads P (assign t a) k n S S' e d same = absurd d
effect_of_reads P (stream j s) k n S S' e d same = absurd d

pub effect_local : EffectIsLocal
effect_local P (call f ts) (by_clause k) n S S' e d c = effect_of_reads P (call f ts) k n S S' e d c.kept
effect_local P (unify l r) unified n S S' e d c = (is_local S S' l r e.binds e.reads d.0 c, d.1, d.2)
effect_local P (assign t a) assigned n S S' e d c =
    let reads = d.4 in
    let ends : (y : VarName) (z : Tree) → In y (leaf_variables a) → EndsIn S y z → EndsIn S' y z =
    λ y z i l. (l.0, leads_agree l.1 (λ x j. c.kept x ((reads x).1 (inl (y, z, l.0, i, l.1, j))))) in
    let there : (x : VarName) → IsOnChainsOf S a x → IsOnChainsOf S' a x = λ x o. let l = ends o.0 o.1 o.3 (o.2, o.4) in (o.0, o.1, o.2, o.3, l.1, o.5) in
    let back : (x : VarName) → IsOnChainsOf S' a x → IsOnChainsOf S a x = λ x o.
    let m = number_ends d.2 o.3 in
    let l = ends o.0 (integer m.0) o.3 m.1 in
    (o.0, integer m.0, m.1.0, o.3, m.1.1, subst (λ zs. In x zs) (leads_once o.4 l.1).0 o.5) in (
      d.0,
      d.1,
      number_there d.2 ends,
      is_local S S' t (integer d.0) e.binds d.1 d.3 (record { less = c.less; kept = λ x i. c.kept x ((reads x).1 (inr i)) }),
      set_of e.reads (λ x. IsOnChainsOf S a x ⊎ IsTrue (set.contains d.1 x)) (λ x. IsOnChainsOf S' a x ⊎ IsTrue (set.contains d.1 x))
          (λ x p. elim p [ inl o ↦ inl (there x o) | inr i ↦ inr i ]) (λ x p. elim p [ inl o ↦ inl (back x o) | inr i ↦ inr i ]) reads,
      d.5,
      d.6,
    )
effect_local P (stream k s) (given u) n S S' e d c = (d.0, d.1, tail_local e d.2 c, d.3, d.4, d.5)
effect_local P (stream k s) closed n S S' e d c = (d.0, tail_local e d.1 c, d.2, d.3, d.4)
effect_local P g a n S S' e d c = absurd d

-- an effect is its four parts
pub same_effect : (e f : Effect) → e.reads ≡ f.reads → e.binds ≡ f.binds → e.makes ≡ f.makes → e.fresh ≡ f.fresh → e ≡ f
same_effect e f p q r s i = record { reads = p i; binds = q i; makes = r i; fresh = s i }

-- a unification binds one map and reads one set
unifies_once : (S : VarName → Option Tree) (l r : Tree) (m n : StoreValue) (s t : Variables) → IsAcyclic S → Unifies S l r m s → Unifies S l r n t → (m ≡ n) × (s ≡ t)
unifies_once S l r m n s t h u v = let e = one_ending S l r (solved m s) (solved n t) h u v in (cc, cc)

tail_once : (e f : Effect) {s x y : VarName} {S : VarName → Option Tree} → ReadsTail s S x e → ReadsTail s S y f → (x ≡ y) × (e.reads ≡ f.reads)
tail_once e f p q = let o = comes_end p.1 p.2 q.1 q.2 in (o.1, p.3 ∙ ap set.from_list o.0 ∙ sym q.3)

reduces_once : (P : Program) (f : List ℕ) (ts : List Tree) (k n : ℕ) (S : VarName → Option Tree) (e g : Effect) (c : Clause) → IsClause P k c → Reduces P f ts k n S e → Reduces P f ts k n S g → e ≡ g
reduces_once P f ts k n S e g c ic d b =
    let left : d.0 ≡ c = clause_once P d.2 ic in
    let right : b.0 ≡ c = clause_once P b.2 ic in
    let o = outcomes_exclude c ts S (accepts d.1 e.reads) (accepts b.1 g.reads) (subst (λ z. HasOutcome z ts S (accepts d.1 e.reads)) left d.4) (subst (λ z. HasOutcome z ts S (accepts b.1 g.reads)) right b.4) in
    let theta : d.1 ≡ b.1 = cc in
    same_effect e g (cc) (d.5 ∙ sym b.5)
    (d.6 ∙ ap (λ z. body_made z d.1 n) left ∙ ap (λ m. body_made c m n) theta ∙ sym (ap (λ z. body_made z b.1 n) right) ∙ sym b.6)
    (d.7 ∙ ap (λ z. length (fresh_variables z)) (left ∙ sym right) ∙ sym b.7)

pub effect_once : EffectIsOne
effect_once P (call f ts) (by_clause k) n S e g h d b = reduces_once P f ts k n S e g d.0 d.2 d b
effect_once P (unify l r) unified n S e g h d b =
    let o = unifies_once S l r e.binds g.binds e.reads g.reads h d.0 b.0 in
    same_effect e g o.1 o.0 (d.1 ∙ sym b.1) (d.2 ∙ sym b.2)
effect_once P (assign t a) assigned n S e g h d b =
    let v : d.0 ≡ b.0 = number_once ends_once d.2 b.2 in
    let o = unifies_once S t (integer d.0) e.binds g.binds d.1 b.1 h d.3 (subst (λ z. Unifies S t (integer z) g.binds b.1) (sym v) b.3) in
    let reads = one_set e.reads g.reads (λ x. IsOnChainsOf S a x ⊎ IsTrue (set.contains d.1 x)) (λ x. IsOnChainsOf S a x ⊎ IsTrue (set.contains b.1 x)) d.4 b.4
    (λ x p. subst (λ s. IsOnChainsOf S a x ⊎ IsTrue (set.contains s x)) o.1 p) (λ x p. subst (λ s. IsOnChainsOf S a x ⊎ IsTrue (set.contains s x)) (sym o.1) p) in
    same_effect e g reads o.0 (d.5 ∙ sym b.5) (d.6 ∙ sym b.6)
effect_once P (stream k s) (given u) n S e g h d b =
    let o = tail_once e g d.2 b.2 in
    same_effect e g o.1 (d.3 ∙ ap (λ x. finite.insert finite.empty x (cons u (variable (made n 1)))) o.0 ∙ sym b.3) (d.4 ∙ sym b.4) (d.5 ∙ sym b.5)
effect_once P (stream k s) closed n S e g h d b =
    let o = tail_once e g d.1 b.1 in
    same_effect e g o.1 (d.2 ∙ ap (λ x. finite.insert finite.empty x nil) o.0 ∙ sym b.2) (d.3 ∙ sym b.3) (d.4 ∙ sym b.4)
effect_once P g a n S e f h d b = absurd d

-- what an accepting clause looks at is bound
pub looked_bound : (c : Clause) (ts : List Tree) (S : VarName → Option Tree) (x : VarName) → Accepts c ts S → LooksAt c ts S x → (t : Tree) × (S x ≡ Some t)
looked_bound c ts S x a (inl l) = by_value (S x) (λ n. absurd (a.0.1 x (l.0, l.1, l.2, _, l.3, l.4, comes_leads l.5.1 n))) (λ t e. (t, e))
looked_bound c ts S x a (inr l) = by_value (S x) (λ n. absurd ((a.1 l.0 l.3).0 x (l.1, l.4, (l.2, _, l.5, comes_leads l.6.1 n)))) (λ t e. (t, e))

-- the only binding
pub only : {x : VarName} (t : Tree) (m : StoreValue) → m ≡ finite.insert finite.empty x t → (y : VarName) (u : Tree) → value_at m y ≡ Some u → (y ≡ x) × (t ≡ u)
only {x = x} t m p y u e =
    elim (eq_by_cmp name_cmp y x) as (λ b. eq_by_cmp name_cmp y x ≡ b → cond b (Some t) (value_at finite.empty y) ≡ Some u → (y ≡ x) × (t ≡ u)) [
      | true ↦ λ q f. (same_name y x q, cc)
      | false ↦ λ q f. let clash : None ≡ Some u = sym (finite.get-empty name_cmp y) ∙ f in cc
    ] refl (sym (finite.get-insert name_total finite.empty x t y) ∙ ap (λ z. value_at z y) (sym p) ∙ e)

pub nothing : (m : StoreValue) → m ≡ finite.empty → (y : VarName) (u : Tree) → ¬ (value_at m y ≡ Some u)
nothing m p y u e = let clash : None ≡ Some u = sym (finite.get-empty name_cmp y) ∙ ap (λ z. value_at z y) (sym p) ∙ e in cc

tail_bound : (e : Effect) {s x : VarName} {S : VarName → Option Tree} (t : Tree) → ReadsTail s S x e → e.binds ≡ finite.insert finite.empty x t → BindsAndReads S e.binds e.reads
tail_bound e {S = S} t r p = record {
  binds_new = λ y u b. ap S (only t e.binds p y u b).0 ∙ r.2;
  reads_bound = λ y i. let o = passed_on r.1 (set_in y r.0 (subst (λ z. IsTrue (set.contains z y)) r.3 i)) in (o.0, o.1);
}

pub effect_binds : EffectBindsAndReads
effect_binds P (call f ts) (by_clause k) n S e d = record {
  binds_new = λ x t b. absurd (nothing e.binds d.5 x t b);
  reads_bound = λ x i. looked_bound d.0 ts S x d.4.0 ((d.4.2 x).0 i);
}
effect_binds P (unify l r) unified n S e d = binds_and_reads S l r e.binds e.reads d.0
effect_binds P (assign t a) assigned n S e d =
    let rest = binds_and_reads S t (integer d.0) e.binds d.1 d.3 in record {
      binds_new = rest.binds_new;
      reads_bound = λ x i. elim ((d.4 x).0 i) [
        | inl o ↦
            let m = number_ends d.2 o.3 in
            let same = leads_once o.4 m.1.1 in
            leads_bound m.1.1 tt (subst (λ zs. In x zs) same.0 o.5)
        | inr j ↦ rest.reads_bound x j
      ];
    }
effect_binds P (stream k s) (given u) n S e d = tail_bound e (cons u (variable (made n 1))) d.2 d.3
effect_binds P (stream k s) closed n S e d = tail_bound e nil d.1 d.2
effect_binds P g a n S e d = absurd d

pub effect_each : EffectUnderEachNumber
effect_each P (call f ts) (by_clause k) m n S e d = (record e { makes = body_made d.0 d.1 n }, (d.0, d.1, d.2, d.3, d.4, d.5, refl, d.7), refl, refl)
effect_each P (unify l r) unified m n S e d = (e, d, refl, refl)
effect_each P (assign t a) assigned m n S e d = (e, d, refl, refl)
effect_each P (stream k s) (given u) m n S e d = (
  record { reads = e.reads; binds = finite.insert finite.empty d.0 (cons u (variable (made n 1))); makes = stream k (made n 1) ∷ []; fresh = 1 },
  (d.0, d.1, d.2, refl, refl, refl),
  refl,
  sym d.5,
)
effect_each P (stream k s) closed m n S e d = (e, d, refl, refl)
effect_each P g a m n S e d = absurd d

-- one binding more, as a map
one_more : (S : VarName → Option Tree) (x : VarName) (t : Tree) (m : StoreValue) → m ≡ finite.insert finite.empty x t → with_binding S x t ≡ with_bindings m S
one_more S x t m p = by_answers (λ y.
    elim (eq_by_cmp name_cmp y x) as (λ b. cond b (Some t) (S y) ≡ option_or (cond b (Some t) None) (S y)) [ true ↦ refl | false ↦ refl ]
    ∙ ap (λ o. option_or (cond (eq_by_cmp name_cmp y x) (Some t) o) (S y)) (sym (finite.get-empty name_cmp y))
    ∙ ap (λ o. option_or o (S y)) (sym (finite.get-insert name_total finite.empty x t y)) ∙ ap (λ z. option_or (value_at z y) (S y)) (sym p))

pub closed_reaches : {S : VarName → Option Tree} {u : Tree} {x : VarName} → IsClosed u → ¬ Reaches S u x
closed_reaches c (here o) = c _ o
closed_reaches c (through o e r) = c _ o

-- a cell of a closed tree and an unbound variable reaches that variable alone
pub given_open : (S : VarName → Option Tree) (u : Tree) (tail x : VarName) → IsClosed u → S tail ≡ None → ¬ (x ≡ tail) → ¬ Reaches S (cons u (variable tail)) x
given_open S u tail x c n apart (here o) = elim o [ inl i ↦ c x i | inr j ↦ elim j [ inl e ↦ apart e | inr k ↦ k ] ]
given_open S u tail x c n apart (through {u = v} {y = y} o e r) =
    elim o [ inl i ↦ c y i | inr j ↦ elim j [ inl p ↦ let clash : None ≡ Some v = sym n ∙ ap S (sym p) ∙ e in cc | inr k ↦ k ] ]

pub effect_acyclic : EffectKeepsAcyclic
effect_acyclic P (call f ts) (by_clause k) n S e h new d =
    subst IsAcyclic (by_answers (λ y. ap (λ o. option_or o (S y)) (sym (finite.get-empty name_cmp y) ∙ ap (λ z. value_at z y) (sym d.5)))) h
effect_acyclic P (unify l r) unified n S e h new d = keeps_acyclic S l r e.binds e.reads h d.0
effect_acyclic P (assign t a) assigned n S e h new d = keeps_acyclic S t (integer d.0) e.binds d.1 h d.3
effect_acyclic P (stream k s) (given u) n S e h new d =
    let x = d.0 in
    let tail = made n 1 in
    let open_end : ¬ Reaches S (cons u (variable tail)) x = given_open S u tail x d.1 (new 1).0 (λ same. (new 1).1 k s refl (subst (λ z. Reaches S (variable s) z) same (comes_reaches d.2.1))) in
    subst IsAcyclic (one_more S x (cons u (variable tail)) e.binds d.3) (binding_acyclic S x (cons u (variable tail)) open_end h)
effect_acyclic P (stream k s) closed n S e h new d =
    subst IsAcyclic (one_more S d.0 nil e.binds d.2) (binding_acyclic S d.0 nil (closed_reaches (λ y o. o)) h)
effect_acyclic P g a n S e h new d = absurd d
