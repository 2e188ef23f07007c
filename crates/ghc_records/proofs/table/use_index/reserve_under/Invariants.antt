use Rattle.ghc_records.proofs.Words.{◌≡◌, ℕ, take, users_at, CanTake, BoundOneOf}
use Rattle.ghc_records.proofs.table.use_index.reserve_under.Given as goal

abbrev pub invariant-loop-x : goal.invariant-loop-x
invariant-loop-x l =
    ((m : ℕ) → users_at l.users m ≡ users_at l.initial.users m) × ((m n : ℕ) → BoundOneOf l.binders.held (take l.x-index l.xs) m → CanTake l.users m n)
    × ((m n : ℕ) → CanTake l.initial.users m n → CanTake l.users m n)
