use Rattle.ghc_core.proofs.Committing.{stream_step_exact}
use Rattle.ghc_core.proofs.laws.stream_step_is_exact.Goals as goal

pub returns : goal.returns
returns c = stream_step_exact
