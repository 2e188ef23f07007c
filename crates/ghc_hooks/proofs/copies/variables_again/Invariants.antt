use Rattle.ghc_hooks.proofs.Words.{take, ◌↔◌, IsTrue, VarName, In}
use Rattle.std.specs.FinSet as set
use Rattle.ghc_hooks.proofs.copies.variables_again.Given as goal

abbrev pub invariant-loop-x : goal.invariant-loop-x
invariant-loop-x l = (y : VarName) → IsTrue (set.contains l.again y) ↔ In y (take l.x-index l.x-items)
