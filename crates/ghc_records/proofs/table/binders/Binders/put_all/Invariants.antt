use Rattle.ghc_records.proofs.Words.{◌+◌, ◌≤◌, drop, length, Some}
use Rattle.ghc_records.proofs.VariableBinders.{IsBeingSet}
use Rattle.ghc_records.proofs.table.binders.Binders.put_all.Given as goal

abbrev pub invariant-loop-x : goal.invariant-loop-x
invariant-loop-x l =
    IsBeingSet (Some l.number) l.binds l.initial.self-inside.map.held l.self-inside.map.held (drop l.x-index l.x-items)
    × (length l.x-items ≤ l.self-inside.map.room + l.x-index)
