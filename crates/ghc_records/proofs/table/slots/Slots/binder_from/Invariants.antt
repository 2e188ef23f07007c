use Rattle.ghc_records.proofs.Words.{ℕ, ◌<◌, ◌≤◌, Record, Binds, StandsIn}
use Rattle.ghc_records.proofs.table.slots.Slots.binder_from.Given as goal

abbrev pub invariant-loop-place : goal.invariant-loop-place
invariant-loop-place l = (p : ℕ) (r : Record) → l.first ≤ p → p < l.place → StandsIn l.self-inside.slots.items p r → ¬ Binds r l.x
