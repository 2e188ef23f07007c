use Rattle.ghc_records.proofs.Words.{drop, None}
use Rattle.ghc_records.proofs.VariableBinders.{IsBeingSet}
use Rattle.ghc_records.proofs.binding.unbind_all.Given as goal

abbrev pub invariant-loop-x : goal.invariant-loop-x
invariant-loop-x l = IsBeingSet None l.binds l.initial.store.held l.store.held (drop l.x-index l.x-items)
