use Rattle.ghc_core.proofs.Histories.{leaves_once}
use Rattle.ghc_core.proofs.laws.history_laws.leaves_is_one.Goals as goal

pub returns : goal.returns
returns c = leaves_once
