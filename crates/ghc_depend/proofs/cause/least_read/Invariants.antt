use Rattle.ghc_depend.proofs.Words.{take, Binds}
use Rattle.ghc_depend.proofs.Causes.{IsLeastOf}
use Rattle.ghc_depend.proofs.cause.least_read.Given as goal

abbrev pub invariant-loop-x : goal.invariant-loop-x
invariant-loop-x l = IsLeastOf (Binds l.earlier) (take l.x-index l.x-items) l.least
