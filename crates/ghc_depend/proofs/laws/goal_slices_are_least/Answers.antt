use Rattle.ghc_depend.proofs.Slicing.{goal_slices}
use Rattle.ghc_depend.proofs.laws.goal_slices_are_least.Goals as goal

pub returns : goal.returns
returns c = goal_slices
