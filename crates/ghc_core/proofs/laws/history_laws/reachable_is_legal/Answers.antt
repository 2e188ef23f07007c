use Rattle.ghc_core.proofs.Histories.{reached_legal}
use Rattle.ghc_core.proofs.Moving.{reachable_reached}
use Rattle.ghc_core.proofs.laws.history_laws.reachable_is_legal.Goals as goal

pub returns : goal.returns
returns c w hands r = reached_legal (reachable_reached r)
