use Rattle.ghc_depend.proofs.Words.{take, VarName, In, Binds}
use Rattle.ghc_depend.proofs.cause.reads_from.Given as goal

abbrev pub invariant-loop-x : goal.invariant-loop-x
invariant-loop-x l = (x : VarName) → In x (take l.x-index l.x-items) → ¬ Binds l.earlier x
