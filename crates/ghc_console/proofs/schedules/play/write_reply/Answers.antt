use Rattle.ghc_console.proofs.ScheduleSaid.{starving_told}
use Rattle.ghc_console.proofs.schedules.play.write_reply.Goals as goal

pub returns-in-Refused-Memory-clause-written : goal.returns-in-Refused-Memory-clause-written
returns-in-Refused-Memory-clause-written g c =
    starving_told _ _ _ _ _ c.in-Refused-Memory.is (rw c.in-Refused-Memory.is at c.in-Refused-Memory.field-0-is) c.write.ensures.written
