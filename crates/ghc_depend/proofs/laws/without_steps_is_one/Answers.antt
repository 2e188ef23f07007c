use Rattle.ghc_depend.proofs.Comparing.{without_once}
use Rattle.ghc_depend.proofs.laws.without_steps_is_one.Goals as goal

pub returns : goal.returns
returns c = without_once
