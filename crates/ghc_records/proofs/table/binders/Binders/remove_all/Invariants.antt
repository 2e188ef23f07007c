use Rattle.ghc_records.proofs.Words.{drop, None}
use Rattle.ghc_records.proofs.VariableBinders.{IsBeingSet}
use Rattle.ghc_records.proofs.table.binders.Binders.remove_all.Given as goal

abbrev pub invariant-loop-x : goal.invariant-loop-x
invariant-loop-x l = IsBeingSet None l.binds l.initial.self-inside.map.held l.self-inside.map.held (drop l.x-index l.x-items)
