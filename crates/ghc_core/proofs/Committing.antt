-- Proposals that hold: what an attempt would propose, the step that they become, and the one answer of a commit.
use Rattle.ghc_core.proofs.Words.{◌≡◌, false, ℕ, arith, refl, sym, ap, ◌∙◌, subst, inl, inr, Some, None, Option, VarName, GoalName, Fault, Tree, Goal, call, unify, assign, stream, IsAcyclic, value_at, exact, Program, is_stream, Act, ByClause as by_clause, Unified as unified, Assigned as assigned, Effect, HasEffect, no_step, under, Answer, proposes, CallAnswers, ChoiceAnswers, UnificationAnswers, AssignmentAnswers, Attempts, effect_once, attempt_once, effect_under, same_act, same_effect, same_fault, apart, Record, World, HasRoom, AttemptAnswers, IsReduction, StillHolds, IsCommitOf, IsStepOf, ProposesInFull, StepFails, IsStanding, choice_of, CommitIsExact, StepIsExact, StreamStepIsExact}
use Rattle.std.specs.FinMap as finite
use Rattle.std.specs.FinSet as set
use Rattle.ghc_fire.specs.Proposal.{Proposal}
use Rattle.ghc_fire.specs.Attempt.{refused}
use Rattle.ghc_fire.specs.Laws.{EffectIsOfWhatItRead}
use Rattle.ghc_core.specs.Proposes.{WasProposed}
use Rattle.ghc_core.proofs.Refusing.{told_once, first_once, stream_fails_once, commit_fails_once, value_once}
use Rattle.ghc_core.proofs.Naming.{known_of_act}
use Rattle.ghc_core.proofs.Stepping as stepping
use Rattle.ghc_core.proofs.Reaching.{known, reached}
use Rattle.ghc_core.proofs.Standing.{standing_numbered}

-- a reduction that has an effect on a goal is what an attempt at it proposes
attempted : (P : Program) (S : VarName → Option Tree) (b : Goal) (a : Act) (e : Effect) → IsReduction a → HasEffect P b a no_step S e → Attempts P S (Some b) (choice_of a) (proposes a e)
attempted P S (call f ts) (by_clause k) e r h = ChoiceAnswers.by_choice h
attempted P S (unify l r) unified e _ h = UnificationAnswers.solves h
attempted P S (assign t a) assigned e r h = AssignmentAnswers.assigns h
attempted P S b a e r h = grind arith

-- A proposal that still holds is what an attempt at its goal proposes.
pub still_proposed : (w : World) (p : Proposal) → StillHolds w p → AttemptAnswers w p.goal (choice_of p.act) (proposes p.act p.effect)
still_proposed w p h =
    subst (λ o. Attempts w.opening.program (value_at w.state.store) o (choice_of p.act) (proposes p.act p.effect)) (sym h.2)
    (attempted w.opening.program (value_at w.state.store) h.0 p.act p.effect h.1 h.3)

-- what an attempt proposes has its effect, and is a reduction
proposed : (P : Program) (S : VarName → Option Tree) (b : Goal) (choice : Option ℕ) (a : Act) (e : Effect) → Attempts P S (Some b) choice (proposes a e)
    → HasEffect P b a no_step S e × IsReduction a
proposed P S (call f ts) None a e (CallAnswers.by_least l d) = (d, tt)
proposed P S (call f ts) (Some k) a e (ChoiceAnswers.by_choice d) = (d, tt)
proposed P S (unify l r) None a e (UnificationAnswers.solves d) = (d, tt)
proposed P S (assign t b) None a e (AssignmentAnswers.assigns d) = (d, tt)
proposed P S b choice a e p = cc

-- What an attempt at a goal proposes has this effect on it now, and is a reduction.
pub proposed_holds : (w : World) (g : GoalName) (choice : Option ℕ) (b : Goal) (a : Act) (e : Effect) → finite.get w.state.goals g ≡ Some b → AttemptAnswers w g choice (proposes a e)
    → HasEffect w.opening.program b a no_step (value_at w.state.store) e × IsReduction a
proposed_holds w g choice b a e there t =
    proposed w.opening.program (value_at w.state.store) b choice a e
    (subst (λ o. Attempts w.opening.program (value_at w.state.store) o choice (proposes a e)) there t)

-- A proposal that an attempt at its goal answers now, with whatever choice, still holds.
pub answered_holds : (w : World) (p : Proposal) (choice : Option ℕ) (b : Goal) → finite.get w.state.goals p.goal ≡ Some b → AttemptAnswers w p.goal choice (proposes p.act p.effect) → StillHolds w p
answered_holds w p choice b there t = let h = proposed_holds w p.goal choice b p.act p.effect there t in (b, h.1, there, h.0)

-- A step of a call that was proposed, and read nothing, still holds where the call is there as it was.
pub holds_as_it_was : EffectIsOfWhatItRead → (w : World) (p : Proposal) (k : ℕ) → WasProposed w p → p.act ≡ by_clause k → set.len p.effect.reads ≡ 0 → finite.get w.state.goals p.goal ≡ Some p.consumed → StillHolds w p
holds_as_it_was law w p k (v, choice, same, proposed) is none there =
    let S = value_at w.state.store in
    let then = proposed_holds v p.goal choice p.consumed p.act p.effect proposed.there proposed.proposed in
    let reads_nothing : (x : VarName) → set.contains p.effect.reads x ≡ false = λ x. ap (λ s. set.contains s x) (set.empty_of_len p.effect.reads none) ∙ set.contains-empty _ x in
    let by = rw is at then.0 in
    let now = law v.opening.program p.consumed k no_step (value_at v.state.store) S p.effect by (λ x i. let clash = reads_nothing x in cc) in
    (p.consumed, then.1, there, subst (λ o. HasEffect o.program p.consumed p.act no_step S p.effect) same (subst (λ a. HasEffect v.opening.program p.consumed a no_step S p.effect) (sym is) now))

-- a goal that a reduction has an effect on is no stream goal
pub no_stream : (P : Program) (b : Goal) (a : Act) (n : ℕ) (S : VarName → Option Tree) (e : Effect) → IsReduction a → HasEffect P b a n S e → is_stream b ≡ false
no_stream P (stream k x) a n S e r h = grind arith
no_stream P b a n S e r h = refl

-- A proposal that still holds is committed, where there is room, as this next step.
pub next_step : (w : World) (p : Proposal) (b : Goal) → IsStanding w → StillHolds w p → finite.get w.state.goals p.goal ≡ Some b → HasRoom w
    → IsCommitOf w p (record { number = w.next; goal = Some p.goal; consumed = Some b; act = p.act; effect = under w.next p.effect })
next_step w p b s h there room =
    let now : HasEffect w.opening.program b p.act no_step (value_at w.state.store) p.effect = subst (λ z. HasEffect w.opening.program z p.act no_step (value_at w.state.store) p.effect) (value_once h.2 there) h.3 in
    let plain : is_stream b ≡ false = no_stream w.opening.program b p.act no_step (value_at w.state.store) p.effect h.1 now in
    let then : HasEffect w.opening.program b p.act w.next (value_at w.state.store) (under w.next p.effect) = effect_under w.opening.program b p.act w.next (value_at w.state.store) p.effect plain (standing_numbered w s p.goal b there) now in
    let r : Record = record { number = w.next; goal = Some p.goal; consumed = Some b; act = p.act; effect = under w.next p.effect } in
    (h, (refl, ((b, refl, there), then), room, known_of_act w.opening.program w.opening.query w.kept r b w.next (value_at w.state.store) r.effect then), refl, refl)

module _ (w : World) (acyclic : IsAcyclic (value_at w.state.store)) where
  one_answer : (g : GoalName) (choice : Option ℕ) {a b : Answer} → AttemptAnswers w g choice a → AttemptAnswers w g choice b → a ≡ b
  one_answer g choice {a} {b} t u = attempt_once w.opening.program (value_at w.state.store) (finite.get w.state.goals g) choice a b acyclic t u

  -- a proposal that still holds is not refused to an attempt at its goal
  pub not_refused : (p : Proposal) (f : Fault) → StillHolds w p → ¬ AttemptAnswers w p.goal (choice_of p.act) (refused f)
  not_refused p f holds t = apart (one_answer p.goal (choice_of p.act) (still_proposed w p holds) t)

  -- what an attempt at the goal of a proposal that still holds proposes is the act and the effect of the proposal
  pub same_again : (p : Proposal) (a : Act) (e : Effect) → StillHolds w p → AttemptAnswers w p.goal (choice_of p.act) (proposes a e) → (a ≡ p.act) × (e ≡ p.effect)
  same_again p a e holds t = let same = one_answer p.goal (choice_of p.act) t (still_proposed w p holds) in (same_act same, same_effect same)

  one_step : (g : GoalName) (choice : Option ℕ) (r s : Record) → IsStepOf w g choice r → IsStepOf w g choice s → r ≡ s
  one_step g choice r s (p, named, t, c) (q, called, u, d) =
      stepping.step_once effect_once w acyclic r s g c.1 d.1 (c.2 ∙ ap Some named) (d.2 ∙ ap Some called) (c.3 ∙ same_act (one_answer g choice t u) ∙ sym d.3)

  -- where an attempt proposes a step for which there is no room, the world is full
  pub step_no_room : (g : GoalName) (choice : Option ℕ) → ProposesInFull w g choice → StepFails w g choice Fault.Full
  step_no_room g choice full = record { first = inr ((λ f u. apart (one_answer g choice full.2 u)), (refl, full)) }

  one_reason : (g : GoalName) (choice : Option ℕ) (e f : Fault) → StepFails w g choice e → StepFails w g choice f → e ≡ f
  one_reason g choice e f p q =
      first_once (λ h. AttemptAnswers w g choice (refused h)) _ (λ h i t u. same_fault (one_answer g choice t u)) (told_once Fault.Full (ProposesInFull w g choice)) e f p.first q.first

  step_or_fail : (g : GoalName) (choice : Option ℕ) (r : Record) (f : Fault) → IsStepOf w g choice r → ¬ StepFails w g choice f
  step_or_fail g choice r f (p, named, t, c) fails = elim fails.first [
    | inl u ↦ apart (one_answer g choice t u)
    | inr more ↦ stepping.room_or_full w c.1.2 more.1.1.3
  ]

-- What is answered for a commit in a reachable world is exact.
pub commit_exact : CommitIsExact
commit_exact w hands p result reachable answer =
    exact (λ r s c d. stepping.step_once effect_once w (known w hands reachable).acyclic r s p.goal c.1 d.1 c.2 d.2 (c.3 ∙ sym d.3))
    (λ f g h k. commit_fails_once h k) (λ r f c d. stepping.commit_or_fail w r c d) result answer

-- What is answered for a step in a reachable world is exact.
pub step_exact : StepIsExact
step_exact w hands g choice result reachable answer =
    let acyclic = (known w hands reachable).acyclic in
    exact (one_step w acyclic g choice) (one_reason w acyclic g choice) (step_or_fail w acyclic g choice) result answer

-- What is answered for an act on a stream in a reachable world is exact.
pub stream_step_exact : StreamStepIsExact
stream_step_exact w hands k act result reachable answer =
    let ordered = reached w hands reachable in
    exact (stepping.one_stream_step effect_once w ordered.acyclic ordered.streams_once k act) (λ f g h q. stream_fails_once h q)
    (λ r f t q. stepping.stream_step_or_fail effect_once w ordered.acyclic ordered.streams_once k act r t q) result answer
