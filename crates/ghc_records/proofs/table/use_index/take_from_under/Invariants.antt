use Rattle.std.proofs.Common.{take}
use Rattle.ghc_records.proofs.Giving.{HasNotUnder, IsBinderOf}
use Rattle.ghc_records.proofs.table.use_index.take_from_under.Given as goal

abbrev pub invariant-loop-x : goal.invariant-loop-x
invariant-loop-x l = HasNotUnder (IsBinderOf l.binders.held) l.initial.users (take l.x-index l.xs) l.user l.users
