use Rattle.ghc_trace.proofs.Words.{take}
use Rattle.ghc_trace.specs.inner.WhyNotCode.{GoalHasOneOf}
use Rattle.ghc_trace.proofs.WrittenIn.{NoneOf}
use Rattle.ghc_trace.proofs.written_in.some_has_one_of.Given as goal

abbrev pub invariant-loop-goal : goal.invariant-loop-goal
invariant-loop-goal l = NoneOf (GoalHasOneOf l.xs) (take l.goal-index l.goals)
