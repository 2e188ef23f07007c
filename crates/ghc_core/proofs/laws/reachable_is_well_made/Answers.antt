use Rattle.ghc_core.proofs.Reaching.{known}
use Rattle.ghc_core.proofs.laws.reachable_is_well_made.Goals as goal

pub returns : goal.returns
returns c = known
