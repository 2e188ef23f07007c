use Rattle.ghc_records.proofs.Words.{◌≡◌, filter, length, take, is_some, AreStraysOf}
use Rattle.ghc_records.proofs.table.slots.strays_when_closed.Given as goal

abbrev pub invariant-loop-slot : goal.invariant-loop-slot
invariant-loop-slot l =
    let seen = filter is_some (take l.slot-index l.slots) in
    (l.place ≡ length seen) × AreStraysOf seen l.strays.held
