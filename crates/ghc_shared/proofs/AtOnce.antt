-- A step that is proposed and submitted at once.
use base.Stored.{Gv}
use Rattle.ghc_shared.proofs.Words.{◌≡◌, ◌⊎◌, ◌∙◌, refl, sym, ap, subst, inl, inr, ℕ, List, length, Bool, Ok, Err, Result, Some, None, Option, Fault, Item, Opening, history, Proposal, World, emptied, commit, CommitFails, Answers, Leaves, LegalIsReachable, LeavesIsOne, AnswersAddWhatTheyTell, tells_change, reply_of, Reply, Known, AddsIfAccepted, IsDecided, IsAnswerTo, holding}
use Rattle.std.specs.Prelude.{IsTrue}
use Rattle.std.specs.FinMap as finite
use Rattle.std.proofs.lemmas.List.{length-map}
use Rattle.ghc_term.specs.declared.goal_name.GoalName.{GoalName}
use Rattle.ghc_term.specs.declared.var_name.VarName.{VarName}
use Rattle.ghc_term.specs.Bindings.{IsAcyclic}
use Rattle.ghc_term.specs.Goal.{Goal, call, unify, assign, stream}
use Rattle.ghc_term.specs.Lists.{In}
use Rattle.ghc_term.specs.Store.{value_at}
use Rattle.ghc_term.specs.Tree.{Tree}
use Rattle.ghc_flat.specs.Clause.{Program}
use Rattle.ghc_fire.specs.declared.act.Act.{Act}
use Rattle.ghc_fire.specs.Effect.{Effect}
use Rattle.ghc_fire.specs.Attempt as attempt
use Rattle.ghc_fire.proofs.Steps.{effect_once}
use Rattle.ghc_records.specs.Record.{Record}
use Rattle.ghc_core.specs.Core.{IsStanding}
use Rattle.ghc_core.specs.Proposes.{AttemptAnswers, IsProposedIn, IsCommitOf, IsStepOf, StepFails, ProposesInFull}
use Rattle.ghc_core.proofs.Committing.{answered_holds, next_step}
use Rattle.ghc_core.proofs.Stepping.{step_once}
use Rattle.ghc_shared.specs.inner.Calls.{code_of, IsProposal, LooksAmong}
use Rattle.ghc_shared.specs.declared.receipt.Receipt as given
use Rattle.ghc_shared.specs.declared.calls.Call.TheVariants.{Submit}
use Rattle.ghc_shared.specs.inner.AtOnce.{IsTaken, IsAnsweredAtOnce, IsStepAtOnce}
use Rattle.ghc_shared.proofs.Answering.{called, commits, gives_up, there_is_told}
use Rattle.ghc_shared.proofs.AnsweredCalls.{answered, told_anyway}

-- an attempt is not refused since the world is full
not_full : (P : Program) (S : VarName → Option Tree) (o : Option Goal) (f : Fault) → attempt.Attempts P S o None (attempt.refused f) → ¬ (f ≡ Fault.Full)
not_full P S None f t e = cc
not_full P S (Some (stream k s)) f t e = cc
not_full P S (Some (call name ts)) f (attempt.CallAnswers.waits n s) e = cc
not_full P S (Some (call name ts)) f (attempt.CallAnswers.no_match n s) e = cc
not_full P S (Some (unify l r)) f (attempt.UnificationAnswers.clashes c) e = cc
not_full P S (Some (unify l r)) f (attempt.UnificationAnswers.cycles c) e = cc
not_full P S (Some (assign t a)) f (attempt.AssignmentAnswers.waits xs h) e = cc
not_full P S (Some (assign t a)) f (attempt.AssignmentAnswers.has_no_value h) e = cc
not_full P S (Some (assign t a)) f (attempt.AssignmentAnswers.clashes v h c) e = cc

-- a step that is found or for which there is no room is not refused since there is no goal or no clause
pub found_is_told : {A : Type 0} {a : A} {f : Fault} → ◌≡◌ {A = Result A Fault} (Ok a) (Err f) → ⊥
found_is_told e = cc

pub full_has_goal : {A : Type 0} {f : Fault} → f ≡ Fault.Full → ◌≡◌ {A = Result A Fault} (Err f) (Err Fault.NoGoal) → ⊥
full_has_goal is e = cc

pub full_has_clause : {A : Type 0} {f : Fault} → f ≡ Fault.Full → ◌≡◌ {A = Result A Fault} (Err f) (Err Fault.NoClause) → ⊥
full_has_clause is e = cc

-- where an attempt proposes a step, the goal is there
goal_of : (P : Program) (S : VarName → Option Tree) (o : Option Goal) (a : Act) (e : Effect) → attempt.Attempts P S o None (attempt.proposes a e) → (b : Goal) × (o ≡ Some b)
goal_of P S None a e t = cc
goal_of P S (Some b) a e t = (b, refl)

module _ (w : World) (g : GoalName) where
  -- the step of a goal that is there, as it was proposed
  abbrev pub step_of : Goal → Proposal → Proposal
  step_of b p = record { goal = g; consumed = b; act = p.act; effect = p.effect }

  -- In this world the step is proposed, and its goal is there.
  abbrev pub IsFound : Proposal → Type 0
  IsFound p = IsProposedIn w g None p × (finite.get w.state.goals p.goal ≡ Some p.consumed)

  -- a step that is found is proposed, and its commit takes it; it binds what was proposed, and makes as many goals
  pub found : IsStanding w → IsAcyclic (value_at w.state.store) → (r : Record) → IsStepOf w g None r
      → (p : Proposal) × IsFound p × IsCommitOf w p r × (r.effect.binds ≡ p.effect.binds) × (length r.effect.makes ≡ length p.effect.makes)
  found standing acyclic r (p, named, t, c) =
      let b = c.0.0 in
      let q = step_of b p in
      let there : finite.get w.state.goals g ≡ Some b = subst (λ h. finite.get w.state.goals h ≡ Some b) named c.0.2 in
      let commit_of : IsCommitOf w q r = ((b, c.0.1, there, c.0.3), c.1, c.2 ∙ ap Some named, c.3) in
      let next = next_step w q b standing commit_of.0 there c.1.2 in
      let same = step_once effect_once w acyclic r _ g c.1 next.1 commit_of.2 next.2 (c.3 ∙ sym next.3) in
      (q, (record { named = refl; there = there; proposed = t }, there), commit_of, ap (λ s. s.effect.binds) same, ap (λ s. length s.effect.makes) same ∙ length-map q.effect.makes _)

  -- what the commit of a step that is found is answered
  pub taken_answer : (p : Proposal) (r : Record) (reply : Reply) (v : World) → IsCommitOf w p r → IsTaken w r (reply_of reply) v → Answers (Unit {0}) w (holding p) (commit 1) (reply_of reply) v (emptied 1 (holding p))
  taken_answer p r reply v c (inl is) = subst (λ a. Answers (Unit {0}) w (holding p) (commit 1) a v (emptied 1 (holding p))) (sym is.0) (commits w v p r.number (r, c, c.1.0, is.1))
  taken_answer p r reply v c (inr is) = subst (λ a. Answers (Unit {0}) w (holding p) (commit 1) a v (emptied 1 (holding p))) (sym is.0) (gives_up w v p Fault.Memory (inl refl) is.1)

  -- a step for which there is no room is proposed, and its commit is refused
  pub full : (f : Fault) → f ≡ Fault.Full → (f ≡ Fault.Memory) ⊎ StepFails w g None f → (p : Proposal) × IsFound p × CommitFails w p Fault.Full
  full f is (inl memory) = cc
  full f is (inr fails) = elim fails.first [
    | inl t ↦ absurd (not_full w.opening.program (value_at w.state.store) (finite.get w.state.goals g) f t is)
    | inr more ↦ fills more.1.1
  ]
    where
      fills : ProposesInFull w g None → (p : Proposal) × IsFound p × CommitFails w p Fault.Full
      fills (p, named, t, is_full) =
          let b = goal_of w.opening.program (value_at w.state.store) (finite.get w.state.goals g) p.act p.effect t in
          let q = step_of b.0 p in
          let holds = answered_holds w q None b.0 b.1 t in
          (q, (record { named = refl; there = b.1; proposed = t }, b.1), record { first = inr ((λ f stale. stale.1 holds), (refl, is_full)) })

  -- why no step of the goal is proposed, if it is not that the world is full
  pub why_not : (f : Fault) → (f ≡ Fault.Memory) ⊎ StepFails w g None f → ¬ (f ≡ Fault.Full) → (f ≡ Fault.Memory) ⊎ AttemptAnswers w g None (attempt.refused f)
  why_not f (inl memory) other = inl memory
  why_not f (inr fails) other = elim fails.first [ inl t ↦ inr t | inr more ↦ absurd (other more.1.0) ]

  -- what is known where no step is proposed
  pub none_proposed : {A : Type 0} → IsStanding w → (f : Fault) → (f ≡ Fault.Memory) ⊎ StepFails w g None f → ¬ (f ≡ Fault.Full)
      → (AttemptAnswers w g None (attempt.refused Fault.NoGoal) → ◌≡◌ {A = Result A Fault} (Err f) (Err Fault.NoGoal)) → (AttemptAnswers w g None (attempt.refused Fault.NoClause) → ◌≡◌ {A = Result A Fault} (Err f) (Err Fault.NoClause))
      → IsProposal (code_of w.opening) w g None (Err f)
  none_proposed standing f why other goal clause = record {
    of_opening = refl;
    standing = standing;
    answer = (tt, why_not f why other);
    no_goal = λ t. let said = goal t in cc;
    no_clause = λ t. let said = clause t in cc;
  }

  -- a commit of what was found, answered
  pub at_once : IsStanding w → (p : Proposal) (reply : Reply) (made : ℕ) (v : World) (old new : List GoalName) → IsFound p
      → (AttemptAnswers w g None (attempt.refused Fault.NoGoal) → ⊥) → (AttemptAnswers w g None (attempt.refused Fault.NoClause) → ⊥)
      → Answers (Unit {0}) w (holding p) (commit 1) (reply_of reply) v (emptied 1 (holding p))
      → (IsTrue (tells_change (reply_of reply)) → made ≡ length p.effect.makes) → ((h : GoalName) → In h new → In h old ⊎ LooksAmong w p.effect.binds h) → IsAnsweredAtOnce w g reply made v old new
  at_once standing p reply made v old new is goal clause answer makes wakes = record {
    step = p;
    proposed = record { of_opening = refl; standing = standing; answer = (is.0, tt); no_goal = λ t. absurd (goal t); no_clause = λ t. absurd (clause t) };
    answer = answer;
    anyway = λ f fails. absurd (there_is_told w p p.consumed f is.1 fails);
    makes = makes;
    wakes = wakes;
  }

module _ {w v : World} {g : GoalName} {reply : Reply} {made : ℕ} {listed woken : List GoalName} (is : IsAnsweredAtOnce w g reply made v listed woken) where
  -- a step that is taken adds its entry
  pub adds_at_once : AnswersAddWhatTheyTell → (accepted : Bool) → accepted ≡ tells_change (reply_of reply) → Leaves (history w.opening w.journal) w
      → AddsIfAccepted IsAnswerTo accepted (history w.opening w.journal) (history v.opening v.journal) (Submit is.step) reply
  adds_at_once law accepted tells legal = called law w v (Submit is.step) reply (emptied 1 (holding is.step)) accepted tells legal is.answer is.anyway

  -- and the opening stays
  pub opened_at_once : AnswersAddWhatTheyTell → code_of v.opening ≡ code_of w.opening
  opened_at_once law = ap (λ (o : Opening). code_of o) (law w v (holding is.step) (emptied 1 (holding is.step)) (commit 1) (reply_of reply) is.answer).0

-- what a pass learns of a step that was proposed and submitted at once
pub told_at_once : LegalIsReachable → LeavesIsOne → (opened : Gv) (w v : World) (g : GoalName) (before : List Item) (receipt : given.Receipt Reply) (made : ℕ) (old new : Known Item) (listed woken : List GoalName)
    → receipt.accepted ≡ tells_change (reply_of receipt.reply) → code_of w.opening ≡ opened → (is : IsAnsweredAtOnce w g receipt.reply made v listed woken) → IsDecided IsAnswerTo before (Submit is.step) receipt old new
    → IsStepAtOnce opened g receipt made old new listed woken
told_at_once law one opened w v g before receipt made old new listed woken tells of_opening is decided = record {
  world = w;
  step = is.step;
  before = before;
  proposed = subst (λ o. IsProposal o w g None (Ok is.step)) of_opening is.proposed;
  makes = λ accepted. is.makes (sym tells ∙ accepted);
  wakes = is.wakes;
  decided = decided;
  anyway = told_anyway one (Submit is.step) before receipt old new decided;
  answered = answered law (Submit is.step) before receipt old new decided;
}
