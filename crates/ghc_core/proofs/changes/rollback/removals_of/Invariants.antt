use Rattle.ghc_core.proofs.Words.{◌≡◌, take, In, Record, numbers}
use Rattle.ghc_core.proofs.changes.rollback.removals_of.Given as goal

abbrev pub invariant-loop-number : goal.invariant-loop-number
invariant-loop-number l = (numbers l.removals.items ≡ take l.number-index l.ns) × ((r : Record) → In r l.removals.items → In r l.records.held)
