use Rattle.ghc_depend.proofs.Words.{take, VarName, In}
use Rattle.ghc_depend.proofs.one_pass.reads_one.Given as goal

abbrev pub invariant-loop-x : goal.invariant-loop-x
invariant-loop-x l = (x : VarName) → In x (take l.x-index l.x-items) → ¬ In x l.bound.keys
