use Rattle.ghc_depend.proofs.Words.{◌≢◌, take, MakesVariable}
use Rattle.ghc_depend.proofs.Sourcing.{AreLeast}
use Rattle.ghc_depend.proofs.sources.least_names.Given as goal

abbrev pub invariant-loop-x : goal.invariant-loop-x
invariant-loop-x l = AreLeast l.records.slots (λ a x. (x.step ≢ l.later.number) × MakesVariable a x) (take l.x-index l.x-items) l.names
