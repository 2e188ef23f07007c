use Rattle.ghc_records.proofs.Words.{ℕ, take, held_before, CanTake, IsMakerOf}
use Rattle.ghc_records.proofs.Giving.{HasUnder}
use Rattle.ghc_records.proofs.table.makers.put_under_makers.Given as goal

abbrev pub invariant-loop-x : goal.invariant-loop-x
invariant-loop-x l = HasUnder (IsMakerOf (held_before l.before l.slots.held)) l.initial.users (take l.x-index l.xs) l.user l.users × ((m : ℕ) → CanTake l.initial.users m l.user → CanTake l.users m l.user)
