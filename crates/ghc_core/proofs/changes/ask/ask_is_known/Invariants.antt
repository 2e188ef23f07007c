use Rattle.ghc_core.proofs.Words.{◌≢◌, take, VarName, In, no_step, IsVariableOf}
use Rattle.ghc_core.proofs.changes.ask.ask_is_known.Given as goal

abbrev pub invariant-loop-x : goal.invariant-loop-x
invariant-loop-x l = (x : VarName) → In x (take l.x-index l.x-items) → x.step ≢ no_step → IsVariableOf l.query.goals l.records.held x
