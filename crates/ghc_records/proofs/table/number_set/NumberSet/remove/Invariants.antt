use Rattle.ghc_records.proofs.Words.{◌≢◌, ◌+◌, ◌≤◌, ℕ, take, ◌↔◌, In}
use Rattle.ghc_records.proofs.table.number_set.NumberSet.remove.Given as goal

abbrev pub invariant-loop-one : goal.invariant-loop-one
invariant-loop-one l = ((n : ℕ) → In n l.left.held ↔ (In n (take l.one-index l.one-items) × (n ≢ l.number))) × (3 ≤ l.left.room + l.one-index)
