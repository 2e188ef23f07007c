use Rattle.ghc_records.proofs.Words.{ℕ, take, CanTake}
use Rattle.ghc_records.proofs.Giving.{HasUnder, IsBinderOf}
use Rattle.ghc_records.proofs.table.use_index.put_under.Given as goal

abbrev pub invariant-loop-x : goal.invariant-loop-x
invariant-loop-x l = HasUnder (IsBinderOf l.binders.held) l.initial.users (take l.x-index l.xs) l.user l.users × ((m : ℕ) → CanTake l.initial.users m l.user → CanTake l.users m l.user)
