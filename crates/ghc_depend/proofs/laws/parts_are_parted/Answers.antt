use Rattle.ghc_depend.proofs.Parting.{parts}
use Rattle.ghc_depend.proofs.laws.parts_are_parted.Goals as goal

pub returns : goal.returns
returns c = parts
