use Rattle.ghc_depend.proofs.Parting.{places}
use Rattle.ghc_depend.proofs.laws.places_are_alone.Goals as goal

pub returns : goal.returns
returns c = places
