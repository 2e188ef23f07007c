use Rattle.ghc_depend.proofs.KeptOnce.{keeps_once}
use Rattle.ghc_depend.proofs.laws.keeps_is_one.Goals as goal

pub returns : goal.returns
returns c = keeps_once
