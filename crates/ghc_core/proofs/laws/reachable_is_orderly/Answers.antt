use Rattle.ghc_core.proofs.Reaching.{reached}
use Rattle.ghc_core.proofs.laws.reachable_is_orderly.Goals as goal

pub returns : goal.returns
returns c = reached
