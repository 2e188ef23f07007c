-- What is refused whatever memory is left.
use Rattle.ghc_core.proofs.Words.{◌≡◌, ℕ, sym, ap, subst, ◌∙◌, inl, inr, Some, None, Result, Err, Option, GoalName, Fault, Record, Follows, IsKeptAs, Proposal, Hands, IsHand, World, IsStanding, Reply, refused, AttemptAnswers, IsNoCandidate, IsToldWhere, UndoFails, IsNotProposedAnyway, HoldsNoGoal, IsNotCommittedAnyway, arith}
use Rattle.std.specs.FinMap as finite
use Rattle.ghc_fire.specs.Attempt as attempt
use Rattle.ghc_core.proofs.Refusing.{has_not, value_once}
use Rattle.ghc_core.proofs.Reversing.{undo_fails_once, undo_or_fail}
use Rattle.ghc_core.proofs.Standing.{standing_orderly}

-- in a standing world a step that can be undone is not refused, and there is one refusal
pub undo_cannot_fail : (w : World) → IsStanding w → {n : ℕ} {f : Fault} (r : Record) → IsKeptAs w.kept n r → ((b : Record) → ¬ Follows w.kept r b) → ¬ UndoFails w.kept n f
undo_cannot_fail w s {n} r k none fails = undo_or_fail w n (standing_orderly w s).kept_once r k none fails

pub one_undo_refusal : (w : World) → IsStanding w → {n : ℕ} {f g : Fault} → UndoFails w.kept n f → UndoFails w.kept n g → f ≡ g
one_undo_refusal w s {n} p q = undo_fails_once w n (standing_orderly w s).kept_once p q

module _ (w : World) where
  -- the reply is what a note is refused for
  pub note_refused_anyway : (g : GoalName) (f : Fault) (reply : Reply) → (IsNoCandidate w g → reply ≡ refused Fault.NoGoal) → (f ≡ Fault.NoGoal) × IsNoCandidate w g → reply ≡ refused f
  note_refused_anyway g f reply said (e, none) = said none ∙ ap refused (sym e)

  module _ (hands : Hands) (h : ℕ) where
    -- a hand that is not there
    pub no_hand_proposed : (g : GoalName) (choice : Option ℕ) {f : Fault} → ¬ IsHand hands h → IsNotProposedAnyway w hands h g choice f → refused Fault.Command ≡ refused f
    no_hand_proposed g choice none fails = grind arith

    -- what an attempt is refused for, whatever memory is left
    pub attempt_refused_anyway : (g : GoalName) (choice : Option ℕ) (result : Result Proposal Fault) {f : Fault} → IsHand hands h → (AttemptAnswers w g choice (attempt.refused Fault.NoGoal) → result ≡ Err Fault.NoGoal)
        → (AttemptAnswers w g choice (attempt.refused Fault.NoClause) → result ≡ Err Fault.NoClause) → IsNotProposedAnyway w hands h g choice f → result ≡ Err f
    attempt_refused_anyway g choice result i goal clause fails = grind arith

    -- a hand that is there holds no goal that is there
    pub holds_no_goal : {f : Fault} → IsHand hands h → IsNotCommittedAnyway w hands h f → IsToldWhere Fault.Stale (HoldsNoGoal w hands h) f
    holds_no_goal i fails = grind arith

    -- the goal of the proposal that the hand holds is gone
    pub held_gone : (p : Proposal) → finite.get hands.held h ≡ Some p → HoldsNoGoal w hands h → finite.get w.state.goals p.goal ≡ None
    held_gone p held (inl none) = absurd (has_not held none)
    held_gone p held (inr (q, here, gone)) = subst (λ (x : Proposal). finite.get w.state.goals x.goal ≡ None) (value_once here held) gone
