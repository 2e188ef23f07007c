use Rattle.ghc_trace.proofs.Words.{take}
use Rattle.ghc_trace.proofs.Places.{AddsMakers}
use Rattle.ghc_trace.proofs.place_slices.add_makers.Given as goal

abbrev pub invariant-loop-x : goal.invariant-loop-x
invariant-loop-x l = AddsMakers l.records.held (take l.x-index l.xs) l.initial.steps.items l.steps.items
