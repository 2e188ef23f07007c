use Rattle.ghc_depend.proofs.Words.{ℕ, ◌-◌, length, map, In, Record, held_in, StandsIn, rank, IsKeptAs}
use Rattle.ghc_depend.proofs.Ahead.{IsGathered}
use Rattle.ghc_depend.proofs.consequence.consequences_by_users.Given as goal

abbrev pub invariant-loop-place : goal.invariant-loop-place
invariant-loop-place l =
    (a : Record) × IsKeptAs (held_in l.records.slots) l.number a × IsGathered (held_in l.records.slots) a (map (rank l.records.slots) l.ahead.keys) l.found.items
    × ((p : ℕ) → In p l.ahead.keys → (b : Record) × StandsIn l.records.slots p b)

abbrev pub decreases-loop-place : goal.decreases-loop-place
decreases-loop-place l = length l.records.held - length l.found.items
