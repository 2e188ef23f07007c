use Rattle.ghc_records.proofs.Words.{arith, pieces_of}
use Rattle.ghc_records.proofs.ChronicleTold.{other_end}
use Rattle.ghc_records.proofs.text.chronicle_reading.behind_end.Goals as goal

pub returns-else-told-next-clause-none : goal.returns-else-told-next-clause-none
returns-else-told-next-clause-none c =
    other_end (pieces_of c.args.text.now) c.in-Some.rest.now c.in-Some.told c.args.next (rw c.as_slice.ensures at c.in-Some.ensures.some)
    (λ e. omega (arith, e, c.if-told-next.false)) (omega (arith, c.in-Some.ensures.few, c.ranges.next)) (omega (arith, c.ranges.next))

pub returns-in-None-clause-none : goal.returns-in-None-clause-none
returns-in-None-clause-none c = (rw c.as_slice.ensures at c.in-None.ensures.none) c.args.next (omega arith)
