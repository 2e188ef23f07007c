use Rattle.ghc_trace.proofs.Words.{take}
use Rattle.ghc_trace.proofs.CallPlaces.{AreNamed}
use Rattle.ghc_trace.proofs.slice_calls.places_of.Given as goal

abbrev pub invariant-loop-place : goal.invariant-loop-place
invariant-loop-place l = AreNamed (take l.place l.list) l.places
