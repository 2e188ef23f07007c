use Rattle.ghc_core.proofs.Words.{take, CanBeAsked}
use Rattle.ghc_core.proofs.saved.asked_again.can_all_be_asked_for.Given as goal

abbrev pub invariant-loop-goal : goal.invariant-loop-goal
invariant-loop-goal l = CanBeAsked l.program (take l.goal-index l.goals)
