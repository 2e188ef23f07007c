-- Attempts: one answer at most, and the same in stores that agree on what the goal looks at.
use Rattle.ghc_fire.proofs.Words.{◌≡◌, ℕ, ◌<◌, ℤ, List, refl, sym, ap, ◌∙◌, subst, inl, inr, ◌⊎◌, arith, Option, Some, None, IsTrue, VarName, Tree, integer, Expression, Goal, call, unify, assign, Variables, Reaches, IsAcyclic, Clause, Program, IsClause, IsFor, EndsIn, Number, number, waits, bad, HasValue, LooksAt, Accepts, Refuses, accepts, GoalLooksAt, ExpressionReaches, set_of, looks_back, value_looks, number_once, number_waits_not, ends_once, leaf_reaches, passes_reaches, leads_there, leads_back, outcome_there, refuses_waits, accepts_refuses, accepts_waits, refuses_there, waits_there, accepts_there, Clashes, solved, clash, cycle, solved_no_clash, solved_no_cycle, clash_no_cycle, looks_at_terms, Act, ByClause as by_clause, Unified as unified, Assigned as assigned, Effect, IsOnChainsOf, HasEffect, no_step, Answer, proposes, SomeAccepts, SomeWaitsFor, IsLeast, CallAnswers, ChoiceAnswers, UnificationAnswers, AssignmentAnswers, AttemptHasOneAnswer, AttemptIsOfWhatIsLookedAt, from_integer}
use Rattle.std.specs.FinSet as set
use Rattle.ghc_fire.proofs.Steps.{clause_once, effect_once}

least_once : (P : Program) (f : List ℕ) (ts : List Tree) (S : VarName → Option Tree) (j k : ℕ) → IsLeast P f ts S j → IsLeast P f ts S k → j ≡ k
least_once P f ts S j k p q =
    let here = p.0 in
    let there = q.0 in
    let no_less : ¬ (j < k) = λ l. q.1 j here.0 l here.1 here.2 here.3 in
    let no_more : ¬ (k < j) = λ l. p.1 k there.0 l there.1 there.2 there.3 in
    omega (arith, no_less, no_more)

-- the effect of one act is one answer
one_proposal : (P : Program) (g : Goal) (act : Act) (S : VarName → Option Tree) (e f : Effect) → IsAcyclic S → HasEffect P g act no_step S e → HasEffect P g act no_step S f → proposes act e ≡ proposes act f
one_proposal P g act S e f h d c = ap (proposes act) (effect_once P g act no_step S e f h d c)

module _ (P : Program) (f : List ℕ) (ts : List Tree) (S : VarName → Option Tree) (h : IsAcyclic S) where
  some : (k : ℕ) → IsLeast P f ts S k → SomeAccepts P f ts S
  some k p = let c = p.0 in (k, c.0, c.1, c.2, c.3)

  least_proposal : (j k : ℕ) (d e : Effect) → j ≡ k → HasEffect P (call f ts) (by_clause j) no_step S d → HasEffect P (call f ts) (by_clause k) no_step S e → proposes (by_clause j) d ≡ proposes (by_clause k) e
  least_proposal j k d e same p q =
      ap (λ i. proposes (by_clause i) d) same
      ∙ one_proposal P (call f ts) (by_clause k) S d e h (subst (λ i. HasEffect P (call f ts) (by_clause i) no_step S d) same p) q

  call_once : (a b : Answer) → CallAnswers no_step P f ts S a → CallAnswers no_step P f ts S b → a ≡ b
  call_once a b (CallAnswers.by_least {k = j} {e = d} l p) (CallAnswers.by_least {k = k} {e = e} m q) = least_proposal j k d e (least_once P f ts S j k l m) p q
  call_once a b (CallAnswers.by_least {k = k} l p) (CallAnswers.waits n w) = absurd (n (some k l))
  call_once a b (CallAnswers.by_least {k = k} l p) (CallAnswers.no_match n w) = absurd (n (some k l))
  call_once a b (CallAnswers.waits n w) (CallAnswers.by_least {k = k} l p) = absurd (n (some k l))
  call_once a b (CallAnswers.waits n w) (CallAnswers.waits m v) = refl
  call_once a b (CallAnswers.waits {x = x} n w) (CallAnswers.no_match m idle) = absurd (idle x w)
  call_once a b (CallAnswers.no_match n idle) (CallAnswers.by_least {k = k} l p) = absurd (n (some k l))
  call_once a b (CallAnswers.no_match n idle) (CallAnswers.waits {x = x} m w) = absurd (idle x w)
  call_once a b (CallAnswers.no_match n idle) (CallAnswers.no_match m none) = refl

  -- the clause that has the effect accepts
  effect_accepts : (k : ℕ) (c : Clause) (e : Effect) → IsClause P k c → HasEffect P (call f ts) (by_clause k) no_step S e → Accepts c ts S
  effect_accepts k c e ic d = subst (λ z. Accepts z ts S) (clause_once P d.2 ic) d.4.0

  choice_once : (k : ℕ) (a b : Answer) → ChoiceAnswers no_step P f ts k S a → ChoiceAnswers no_step P f ts k S b → a ≡ b
  choice_once k a b (ChoiceAnswers.no_clause n) (ChoiceAnswers.no_clause m) = refl
  choice_once k a b (ChoiceAnswers.no_clause n) (ChoiceAnswers.by_choice p) = absurd (n p.0 p.2 p.3)
  choice_once k a b (ChoiceAnswers.no_clause n) (ChoiceAnswers.waits {c = c} ic is w) = absurd (n c ic is)
  choice_once k a b (ChoiceAnswers.no_clause n) (ChoiceAnswers.no_match {c = c} ic is r) = absurd (n c ic is)
  choice_once k a b (ChoiceAnswers.by_choice p) (ChoiceAnswers.no_clause n) = absurd (n p.0 p.2 p.3)
  choice_once k a b (ChoiceAnswers.by_choice {e = d} p) (ChoiceAnswers.by_choice {e = e} q) = one_proposal P (call f ts) (by_clause k) S d e h p q
  choice_once k a b (ChoiceAnswers.by_choice {e = e} p) (ChoiceAnswers.waits {c = c} {x = x} ic is w) = absurd (accepts_waits c ts S (effect_accepts k c e ic p) x w)
  choice_once k a b (ChoiceAnswers.by_choice {e = e} p) (ChoiceAnswers.no_match {c = c} ic is r) = absurd (accepts_refuses c ts S (effect_accepts k c e ic p) r)
  choice_once k a b (ChoiceAnswers.waits {c = c} ic is w) (ChoiceAnswers.no_clause n) = absurd (n c ic is)
  choice_once k a b (ChoiceAnswers.waits {c = c} {x = x} ic is w) (ChoiceAnswers.by_choice {e = e} p) = absurd (accepts_waits c ts S (effect_accepts k c e ic p) x w)
  choice_once k a b (ChoiceAnswers.waits ic is w) (ChoiceAnswers.waits id for v) = refl
  choice_once k a b (ChoiceAnswers.waits {c = c} {x = x} ic is w) (ChoiceAnswers.no_match {c = d} id for r) = absurd (refuses_waits c ts S (subst (λ z. Refuses z ts S) (clause_once P id ic) r) x w)
  choice_once k a b (ChoiceAnswers.no_match {c = c} ic is r) (ChoiceAnswers.no_clause n) = absurd (n c ic is)
  choice_once k a b (ChoiceAnswers.no_match {c = c} ic is r) (ChoiceAnswers.by_choice {e = e} p) = absurd (accepts_refuses c ts S (effect_accepts k c e ic p) r)
  choice_once k a b (ChoiceAnswers.no_match {c = c} ic is r) (ChoiceAnswers.waits {c = d} {x = x} id for w) = absurd (refuses_waits d ts S (subst (λ z. Refuses z ts S) (clause_once P ic id) r) x w)
  choice_once k a b (ChoiceAnswers.no_match ic is r) (ChoiceAnswers.no_match id for s) = refl

module _ (P : Program) (S : VarName → Option Tree) (h : IsAcyclic S) where
  unification_once : (l r : Tree) (a b : Answer) → UnificationAnswers P l r S a → UnificationAnswers P l r S b → a ≡ b
  unification_once l r a b (UnificationAnswers.solves {e = d} p) (UnificationAnswers.solves {e = e} q) = one_proposal P (unify l r) unified S d e h p q
  unification_once l r a b (UnificationAnswers.solves p) (UnificationAnswers.clashes c) = absurd (solved_no_clash h p.0.2 c)
  unification_once l r a b (UnificationAnswers.solves p) (UnificationAnswers.cycles c) = absurd (solved_no_cycle h p.0.2 c)
  unification_once l r a b (UnificationAnswers.clashes c) (UnificationAnswers.solves p) = absurd (solved_no_clash h p.0.2 c)
  unification_once l r a b (UnificationAnswers.clashes c) (UnificationAnswers.clashes d) = refl
  unification_once l r a b (UnificationAnswers.clashes c) (UnificationAnswers.cycles d) = absurd (clash_no_cycle h c d)
  unification_once l r a b (UnificationAnswers.cycles c) (UnificationAnswers.solves p) = absurd (solved_no_cycle h p.0.2 c)
  unification_once l r a b (UnificationAnswers.cycles c) (UnificationAnswers.clashes d) = absurd (clash_no_cycle h d c)
  unification_once l r a b (UnificationAnswers.cycles c) (UnificationAnswers.cycles d) = refl

  -- a number excludes waiting and having no value
  number_not_waits : (b : Expression) (v : ℤ) (xs : Variables) → Number (EndsIn S) b v → ¬ HasValue S b (waits xs)
  number_not_waits b v xs n w = number_waits_not ends_once n w.1.1

  clash_not_solved : (t : Tree) (b : Expression) (v : ℤ) (e : Effect) → HasValue S b (number v) → Clashes S t (integer v) → ¬ HasEffect P (assign t b) assigned no_step S e
  clash_not_solved t b v e n c d =
      solved_no_clash h d.3.2 (subst (λ i. Clashes S t (integer i)) (number_once ends_once n d.2) c)

  assignment_once : (t : Tree) (b : Expression) (a c : Answer) → AssignmentAnswers P t b S a → AssignmentAnswers P t b S c → a ≡ c
  assignment_once t b a c (AssignmentAnswers.waits xs w) (AssignmentAnswers.waits ys u) = refl
  assignment_once t b a c (AssignmentAnswers.waits xs w) (AssignmentAnswers.has_no_value n) = absurd (n.0 w.1.0 w.1.1)
  assignment_once t b a c (AssignmentAnswers.waits xs w) (AssignmentAnswers.clashes v k m) = absurd (number_not_waits b v xs k w)
  assignment_once t b a c (AssignmentAnswers.waits xs w) (AssignmentAnswers.assigns d) = absurd (number_not_waits b d.0 xs d.2 w)
  assignment_once t b a c (AssignmentAnswers.has_no_value n) (AssignmentAnswers.waits xs w) = absurd (n.0 w.1.0 w.1.1)
  assignment_once t b a c (AssignmentAnswers.has_no_value n) (AssignmentAnswers.has_no_value m) = refl
  assignment_once t b a c (AssignmentAnswers.has_no_value n) (AssignmentAnswers.clashes v k m) = absurd (n.1 v k)
  assignment_once t b a c (AssignmentAnswers.has_no_value n) (AssignmentAnswers.assigns d) = absurd (n.1 d.0 d.2)
  assignment_once t b a c (AssignmentAnswers.clashes v k m) (AssignmentAnswers.waits xs w) = absurd (number_not_waits b v xs k w)
  assignment_once t b a c (AssignmentAnswers.clashes v k m) (AssignmentAnswers.has_no_value n) = absurd (n.1 v k)
  assignment_once t b a c (AssignmentAnswers.clashes v k m) (AssignmentAnswers.clashes i j n) = refl
  assignment_once t b a c (AssignmentAnswers.clashes v k m) (AssignmentAnswers.assigns {e = e} d) = absurd (clash_not_solved t b v e k m d)
  assignment_once t b a c (AssignmentAnswers.assigns d) (AssignmentAnswers.waits xs w) = absurd (number_not_waits b d.0 xs d.2 w)
  assignment_once t b a c (AssignmentAnswers.assigns d) (AssignmentAnswers.has_no_value n) = absurd (n.1 d.0 d.2)
  assignment_once t b a c (AssignmentAnswers.assigns {e = e} d) (AssignmentAnswers.clashes v k m) = absurd (clash_not_solved t b v e k m d)
  assignment_once t b a c (AssignmentAnswers.assigns {e = d} p) (AssignmentAnswers.assigns {e = e} q) = one_proposal P (assign t b) assigned S d e h p q

pub attempt_once : AttemptHasOneAnswer
attempt_once P S (Some (call f ts)) None a b h p q = call_once P f ts S h a b p q
attempt_once P S (Some (call f ts)) (Some k) a b h p q = choice_once P f ts S h k a b p q
attempt_once P S (Some (unify l r)) None a b h p q = unification_once P S h l r a b p q
attempt_once P S (Some (assign t c)) None a b h p q = assignment_once P S h t c a b p q
attempt_once P S _ choice a b h p q = p ∙ sym q

-- calls in stores that agree
module _ (P : Program) (f : List ℕ) (ts : List Tree) (S S' : VarName → Option Tree) (h : (x : VarName) → GoalLooksAt P S (call f ts) x → S' x ≡ S x) where
  at_clause : (k : ℕ) (c : Clause) → IsClause P k c → IsFor f ts c → (x : VarName) → LooksAt c ts S x → S' x ≡ S x
  at_clause k c ic i x l = h x (k, c, ic, i, l)

  call_back : (x : VarName) → GoalLooksAt P S' (call f ts) x → S x ≡ S' x
  call_back x l = sym (h x (l.0, l.1, l.2, l.3, looks_back l.1 ts S S' (at_clause l.0 l.1 l.2 l.3) x l.4))

  some_accepts_there : SomeAccepts P f ts S → SomeAccepts P f ts S'
  some_accepts_there a = (a.0, a.1, a.2, a.3, accepts_there a.1 ts S S' (at_clause a.0 a.1 a.2 a.3) a.4)

  some_waits_there : (x : VarName) → SomeWaitsFor P f ts S x → SomeWaitsFor P f ts S' x
  some_waits_there x w = (w.0, w.1, w.2, w.3, waits_there w.1 ts S S' (at_clause w.0 w.1 w.2 w.3) x w.4)

  reduction_there : (k n : ℕ) (e : Effect) → HasEffect P (call f ts) (by_clause k) n S e → HasEffect P (call f ts) (by_clause k) n S' e
  reduction_there k n e d = (d.0, d.1, d.2, d.3, outcome_there d.0 ts S S' (accepts d.1 e.reads) d.4 (at_clause k d.0 d.2 d.3), d.5, d.6, d.7)

module _ (P : Program) (f : List ℕ) (ts : List Tree) (S S' : VarName → Option Tree) (h : (x : VarName) → GoalLooksAt P S (call f ts) x → S' x ≡ S x) where
  least_there : (k : ℕ) → IsLeast P f ts S k → IsLeast P f ts S' k
  least_there k l =
      let c = l.0 in (
        (c.0, c.1, c.2, accepts_there c.0 ts S S' (at_clause P f ts S S' h k c.0 c.1 c.2) c.3),
        λ j d less id i a. l.1 j d less id i (accepts_there d ts S' S (at_clause P f ts S' S (call_back P f ts S S' h) j d id i) a),
      )

  call_there : (a : Answer) → CallAnswers no_step P f ts S a → CallAnswers no_step P f ts S' a
  call_there a (CallAnswers.by_least {k = k} {e = e} l d) = CallAnswers.by_least (least_there k l) (reduction_there P f ts S S' h k no_step e d)
  call_there a (CallAnswers.waits {x = x} n w) = CallAnswers.waits (λ s. n (some_accepts_there P f ts S' S (call_back P f ts S S' h) s)) (some_waits_there P f ts S S' h x w)
  call_there a (CallAnswers.no_match n idle) =
      CallAnswers.no_match (λ s. n (some_accepts_there P f ts S' S (call_back P f ts S S' h) s)) (λ x w. idle x (some_waits_there P f ts S' S (call_back P f ts S S' h) x w))

  choice_there : (k : ℕ) (a : Answer) → ChoiceAnswers no_step P f ts k S a → ChoiceAnswers no_step P f ts k S' a
  choice_there k a (ChoiceAnswers.no_clause n) = ChoiceAnswers.no_clause n
  choice_there k a (ChoiceAnswers.by_choice {e = e} d) = ChoiceAnswers.by_choice (reduction_there P f ts S S' h k no_step e d)
  choice_there k a (ChoiceAnswers.waits {c = c} {x = x} ic is w) = ChoiceAnswers.waits ic is (waits_there c ts S S' (at_clause P f ts S S' h k c ic is) x w)
  choice_there k a (ChoiceAnswers.no_match {c = c} ic is r) = ChoiceAnswers.no_match ic is (refuses_there c ts S S' (at_clause P f ts S S' h k c ic is) r)

module _ (P : Program) (S S' : VarName → Option Tree) where
  unification_there : (l r : Tree) (a : Answer) → ((x : VarName) → GoalLooksAt P S (unify l r) x → S' x ≡ S x) → UnificationAnswers P l r S a → UnificationAnswers P l r S' a
  unification_there l r a h (UnificationAnswers.solves {e = e} d) = UnificationAnswers.solves (looks_at_terms S S' l r (solved e.binds e.reads) d.0 h, d.1, d.2)
  unification_there l r a h (UnificationAnswers.clashes c) = UnificationAnswers.clashes (looks_at_terms S S' l r clash c h)
  unification_there l r a h (UnificationAnswers.cycles c) = UnificationAnswers.cycles (looks_at_terms S S' l r cycle c h)

  module _ (t : Tree) (b : Expression) (h : (x : VarName) → GoalLooksAt P S (assign t b) x → S' x ≡ S x) where
    at_expression : (x : VarName) → ExpressionReaches S b x → S' x ≡ S x
    at_expression x r = h x (inr r)

    at_sides : (v : ℤ) (x : VarName) → Reaches S t x ⊎ Reaches S (integer v) x → S' x ≡ S x
    at_sides v x (inl r) = h x (inl r)
    at_sides v x (inr r) = absurd (from_integer r)

    chains_there : (x : VarName) → IsOnChainsOf S b x → IsOnChainsOf S' b x
    chains_there x o = (o.0, o.1, o.2, o.3, leads_there o.4 (λ y p. at_expression y (leaf_reaches b o.0 y o.3 (passes_reaches p.1))), o.5)

    chains_back : (x : VarName) → IsOnChainsOf S' b x → IsOnChainsOf S b x
    chains_back x o = (o.0, o.1, o.2, o.3, leads_back o.4 (λ y p. at_expression y (leaf_reaches b o.0 y o.3 (passes_reaches p.1))), o.5)

    effect_there : (e : Effect) → HasEffect P (assign t b) assigned no_step S e → HasEffect P (assign t b) assigned no_step S' e
    effect_there e d = (
      d.0,
      d.1,
      value_looks S S' b (number d.0) d.2 at_expression,
      looks_at_terms S S' t (integer d.0) (solved e.binds d.1) d.3 (at_sides d.0),
      set_of e.reads (λ x. IsOnChainsOf S b x ⊎ IsTrue (set.contains d.1 x)) (λ x. IsOnChainsOf S' b x ⊎ IsTrue (set.contains d.1 x))
          (λ x p. elim p [ inl o ↦ inl (chains_there x o) | inr i ↦ inr i ]) (λ x p. elim p [ inl o ↦ inl (chains_back x o) | inr i ↦ inr i ]) d.4,
      d.5,
      d.6,
    )

    assignment_there : (a : Answer) → AssignmentAnswers P t b S a → AssignmentAnswers P t b S' a
    assignment_there a (AssignmentAnswers.waits xs w) = AssignmentAnswers.waits xs (value_looks S S' b (waits xs) w at_expression)
    assignment_there a (AssignmentAnswers.has_no_value n) = AssignmentAnswers.has_no_value (value_looks S S' b bad n at_expression)
    assignment_there a (AssignmentAnswers.clashes v k c) =
        AssignmentAnswers.clashes v (value_looks S S' b (number v) k at_expression) (looks_at_terms S S' t (integer v) clash c (at_sides v))
    assignment_there a (AssignmentAnswers.assigns {e = e} d) = AssignmentAnswers.assigns (effect_there e d)

pub attempt_there : AttemptIsOfWhatIsLookedAt
attempt_there P S S' (call f ts) None a p h = call_there P f ts S S' h a p
attempt_there P S S' (call f ts) (Some k) a p h = choice_there P f ts S S' h k a p
attempt_there P S S' (unify l r) None a p h = unification_there P S S' l r a h p
attempt_there P S S' (assign t b) None a p h = assignment_there P S S' t b h a p
attempt_there P S S' _ choice a p h = p
