use Rattle.ghc_records.proofs.table.slots.Slots.make_room.Goals as goal

pub invariant_of-self : goal.invariant_of-self
invariant_of-self c = rw c.reserve.ensures.items c.self.invariant

pub invariant_of-self-2 : goal.invariant_of-self-2
invariant_of-self-2 c = rw (c.reserve.ensures.items, c.reserve-2.ensures.held) c.self.invariant
