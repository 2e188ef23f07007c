use Rattle.ghc_match.proofs.Values.{values_exclude}
use Rattle.ghc_match.proofs.laws.values_exclude.Goals as goal

pub returns : goal.returns
returns c = values_exclude
