use Rattle.ghc_fire.proofs.Answering.{attempt_exact}
use Rattle.ghc_fire.proofs.laws.attempt_is_exact.Goals as goal

pub returns : goal.returns
returns c = attempt_exact
