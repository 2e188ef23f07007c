use Rattle.ghc_depend.proofs.Arranging.{neighbours}
use Rattle.ghc_depend.proofs.laws.neighbours_change_places.Goals as goal

pub returns : goal.returns
returns c = neighbours
