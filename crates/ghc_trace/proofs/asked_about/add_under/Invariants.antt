use Rattle.ghc_trace.proofs.Words.{take, value_at}
use Rattle.ghc_trace.proofs.AskedAbout.{GainsUnderList}
use Rattle.ghc_trace.proofs.asked_about.add_under.Given as goal

abbrev pub invariant-loop-z : goal.invariant-loop-z
invariant-loop-z l = GainsUnderList (value_at l.store.held) l.initial.waits l.waits (take l.z-index l.z-items) l.awaited
