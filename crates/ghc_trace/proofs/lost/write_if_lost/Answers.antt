use Rattle.ghc_trace.proofs.Words.{inl, inr, refl}
use Rattle.ghc_trace.proofs.WrittenIn.{fails, holds}
use Rattle.ghc_trace.proofs.lost.write_if_lost.Goals as goal

pub returns-then-not-is_lost : goal.returns-then-not-is_lost
returns-then-not-is_lost c = inr (fails c.in_ok-is_lost.is_lost c.if-not-is_lost.true c.in_ok-is_lost.ensures, refl)

pub returns : goal.returns
returns c = inl (holds c.in_ok-is_lost.is_lost c.if-not-is_lost.false c.in_ok-is_lost.ensures, c.in_ok-write_lost.ensures)
