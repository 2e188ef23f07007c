use Rattle.ghc_depend.proofs.Words.{◌≡◌, take, IsOfKept}
use Rattle.ghc_depend.proofs.places.places_of.Given as goal

abbrev pub invariant-loop-number : goal.invariant-loop-number
invariant-loop-number l = record { numbers : l.places.keys ≡ take l.number-index l.order; kept : IsOfKept l.records.held (take l.number-index l.order) }
