use Rattle.ghc_depend.proofs.Slicing.{slices}
use Rattle.ghc_depend.proofs.laws.slices_are_least.Goals as goal

pub returns : goal.returns
returns c = slices
