use Rattle.ghc_core.proofs.Keeping.{reached_keeps}
use Rattle.ghc_core.proofs.Moving.{reachable_reached}
use Rattle.ghc_core.proofs.laws.reachable_keeps.Goals as goal

pub returns : goal.returns
returns c w hands r = reached_keeps (reachable_reached r)
