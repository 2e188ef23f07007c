use Rattle.ghc_core.proofs.Histories.{reached_once}
use Rattle.ghc_core.proofs.Moving.{reachable_reached}
use Rattle.ghc_core.proofs.laws.history_laws.reachable_is_one.Goals as goal

pub returns : goal.returns
returns c w v hands others r q o j = reached_once (reachable_reached r) (reachable_reached q) o j
