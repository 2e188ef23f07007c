use Rattle.ghc_records.proofs.Words.{◌≡◌, ℕ, take, held_before, users_at, CanTake, MadeOneOf}
use Rattle.ghc_records.proofs.table.makers.reserve_under_makers.Given as goal

abbrev pub invariant-loop-x : goal.invariant-loop-x
invariant-loop-x l =
    ((m : ℕ) → users_at l.users m ≡ users_at l.initial.users m) × ((m n : ℕ) → MadeOneOf (held_before l.before l.slots.held) (take l.x-index l.xs) m → CanTake l.users m n)
    × ((m n : ℕ) → CanTake l.initial.users m n → CanTake l.users m n)
