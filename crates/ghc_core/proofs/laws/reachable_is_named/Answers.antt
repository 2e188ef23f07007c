use Rattle.ghc_core.proofs.Reaching.{reachable_good}
use Rattle.ghc_core.proofs.laws.reachable_is_named.Goals as goal

pub returns : goal.returns
returns c = λ w hands r. (reachable_good r).named
