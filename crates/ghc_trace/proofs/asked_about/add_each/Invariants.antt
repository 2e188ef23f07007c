use Rattle.ghc_trace.proofs.Words.{take}
use Rattle.ghc_trace.proofs.AskedAbout.{GainsList}
use Rattle.ghc_trace.proofs.asked_about.add_each.Given as goal

abbrev pub invariant-loop-y : goal.invariant-loop-y
invariant-loop-y l = GainsList l.initial.waits l.waits l.under (take l.y-index l.y-items)
