use Rattle.ghc_depend.proofs.Words.{◌<◌, Record, StandsIn, IsSoFar}
use Rattle.ghc_depend.proofs.one_pass.consequences_by_pass.Given as goal

abbrev pub invariant-loop-place : goal.invariant-loop-place
invariant-loop-place l =
    (l.own < l.place) × ((a : Record) → StandsIn l.records.slots l.own a → IsSoFar l.records.slots a l.place l.steps.places.keys l.steps.bound.keys l.found.items)
