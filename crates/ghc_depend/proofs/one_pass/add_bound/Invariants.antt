use Rattle.ghc_depend.proofs.Words.{take}
use Rattle.ghc_depend.proofs.OnePass.{ArePut}
use Rattle.ghc_depend.proofs.one_pass.add_bound.Given as goal

abbrev pub invariant-loop-x : goal.invariant-loop-x
invariant-loop-x l = ArePut l.initial.bound.keys (take l.x-index l.x-items) l.bound.keys
