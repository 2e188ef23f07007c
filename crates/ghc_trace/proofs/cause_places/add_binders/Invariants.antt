use Rattle.ghc_trace.proofs.Words.{take}
use Rattle.ghc_records.specs.Uses.{Binds}
use Rattle.ghc_trace.specs.Causes.{HasInFront}
use Rattle.ghc_trace.proofs.CausePlaces.{OfOne}
use Rattle.ghc_trace.proofs.cause_places.add_binders.Given as goal

abbrev pub invariant-loop-x : goal.invariant-loop-x
invariant-loop-x l = HasInFront l.records.slots l.place (OfOne l.records.slots l.place Binds (take l.x-index l.xs)) l.initial.places.keys l.places.keys
