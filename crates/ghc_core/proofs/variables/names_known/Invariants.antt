use Rattle.ghc_core.proofs.Words.{◌≢◌, take, VarName, In, IsVariableOf}
use Rattle.ghc_core.proofs.variables.names_known.Given as goal

abbrev pub invariant-loop-x : goal.invariant-loop-x
invariant-loop-x l = (x : VarName) → In x (take l.x-index l.x-items) → x.step ≢ l.number → IsVariableOf l.query.goals l.records.held x
