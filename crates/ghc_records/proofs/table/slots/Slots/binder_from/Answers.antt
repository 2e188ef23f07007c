use Rattle.ghc_records.proofs.Words.{arith, Some, slice_get_within}
use Rattle.ghc_records.proofs.SlotLemmas.{stands_held}
use Rattle.ghc_records.proofs.table.slots.Slots.binder_from.Goals as goal

pub returns-in-Some-clause-some : goal.returns-in-Some-clause-some
returns-in-Some-clause-some c =
    let s = c.in-Some.ensures.some in
    (s.0, rw (← c.self.view_is) (stands_held c.self.inside.slots.items c.loop-place.place s.0 (rw c.as_slice.ensures.value at s.1)), s.3, s.2)

pub returns-clause-none : goal.returns-clause-none
returns-clause-none c p r low at binds =
    let items = c.self.inside.slots.items in
    let here = rw (← c.self.view_is) at at in
    let within = slice_get_within items p (Some r) here in
    c.loop-place.invariant p r low (omega (arith, within, c.loop-place-test.false, c.len-place-end.ensures)) here binds
