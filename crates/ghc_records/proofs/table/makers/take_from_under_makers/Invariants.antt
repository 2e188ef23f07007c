use Rattle.ghc_records.proofs.Words.{take, held_before, IsMakerOf}
use Rattle.ghc_records.proofs.Giving.{HasNotUnder}
use Rattle.ghc_records.proofs.table.makers.take_from_under_makers.Given as goal

abbrev pub invariant-loop-x : goal.invariant-loop-x
invariant-loop-x l = HasNotUnder (IsMakerOf (held_before l.before l.slots.held)) l.initial.users (take l.x-index l.xs) l.user l.users
