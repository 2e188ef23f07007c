use Rattle.ghc_records.proofs.Words.{rules}
use Rattle.ghc_records.proofs.RisingNumbers.{place_of, place_for, is_absent, removed, without_absent}
use Rattle.ghc_records.proofs.table.rising.take_rising.Goals as goal

pub returns-in-Ok : goal.returns-in-Ok
returns-in-Ok c =
    let xs = c.args.list.now.items in
    let place = place_of c.deref.result.now xs c.args.number c.in-Ok.place c.deref.ensures.value c.requires c.in-Ok.ensures.position in
    let left = removed xs c.in-Ok.place c.args.number c.requires place in
    record { rising = rw c.remove.ensures.items left.0; numbers = λ n. rw c.remove.ensures.items (left.1 n); length = search rules }

pub returns-in_default-clause-numbers : goal.returns-in_default-clause-numbers
returns-in_default-clause-numbers c n =
    let place = place_for c.deref.result.now c.args.list.now.items c.args.number c.in_default.field-0 c.deref.ensures.value c.requires c.in_default.ensures.position in
    without_absent c.args.list.now.items c.args.number n (is_absent c.args.list.now.items c.in_default.field-0 c.args.number c.requires place)
