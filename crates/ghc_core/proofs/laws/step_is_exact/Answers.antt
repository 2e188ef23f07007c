use Rattle.ghc_core.proofs.Committing.{step_exact}
use Rattle.ghc_core.proofs.laws.step_is_exact.Goals as goal

pub returns : goal.returns
returns c = step_exact
