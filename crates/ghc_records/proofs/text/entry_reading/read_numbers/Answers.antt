use Rattle.std.proofs.Common.{sym, subst}
use Rattle.ghc_records.proofs.NumberLists.{HasNumbers, one_number_more}
use Rattle.ghc_records.proofs.text.entry_reading.read_numbers.Goals as goal

pub loop-number-preserved : goal.loop-number-preserved
loop-number-preserved c =
    let next = c.in-Some.ensures in
    subst (λ l. HasNumbers c.args.bytes.now l c.in-Some.further.now) (sym c.in_ok-push.ensures.items)
    (one_number_more c.args.bytes.now c.loop-number.numbers.items c.loop-number.rest.now c.loop-number.invariant c.in-Some.number c.in-Some.further.now next.found next.named next.further)
