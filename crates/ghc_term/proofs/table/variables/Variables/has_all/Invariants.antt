use Rattle.ghc_term.proofs.Words.{take, IsTrue, VarName, In}
use Rattle.std.specs.FinSet as set
use Rattle.ghc_term.proofs.table.variables.Variables.has_all.Given as goal

abbrev pub invariant-loop-x : goal.invariant-loop-x
invariant-loop-x l = (x : VarName) → In x (take l.x-index l.others) → IsTrue (set.contains l.self x)
