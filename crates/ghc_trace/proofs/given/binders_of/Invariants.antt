use Rattle.ghc_trace.proofs.Words.{take, In}
use Rattle.ghc_trace.specs.Causes.{AreBindersOf}
use Rattle.ghc_trace.proofs.given.binders_of.Given as goal

abbrev pub invariant-loop-x : goal.invariant-loop-x
invariant-loop-x l = AreBindersOf l.records.held (λ z. In z (take l.x-index l.xs)) l.binders.items
