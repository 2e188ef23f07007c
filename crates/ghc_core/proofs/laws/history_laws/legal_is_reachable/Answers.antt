use Rattle.ghc_core.proofs.Histories.{legal_reachable}
use Rattle.ghc_core.proofs.laws.history_laws.legal_is_reachable.Goals as goal

pub returns : goal.returns
returns c = legal_reachable
