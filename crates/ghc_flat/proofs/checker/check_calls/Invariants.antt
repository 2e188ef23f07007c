use Rattle.ghc_flat.proofs.Words.{take, AllCalls, Knows}
use Rattle.ghc_flat.proofs.checker.check_calls.Given as goal

abbrev pub invariant-loop-goal : goal.invariant-loop-goal
invariant-loop-goal l = AllCalls (Knows l.index) (take l.goal-index l.goals)
