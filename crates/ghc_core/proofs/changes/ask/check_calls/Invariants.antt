use Rattle.ghc_core.proofs.Words.{take, AllCalls, HasClauseFor}
use Rattle.ghc_core.proofs.changes.ask.check_calls.Given as goal

abbrev pub invariant-loop-goal : goal.invariant-loop-goal
invariant-loop-goal l = AllCalls (HasClauseFor l.program) (take l.goal-index l.goals)
