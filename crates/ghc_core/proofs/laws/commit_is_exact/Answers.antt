use Rattle.ghc_core.proofs.Committing.{commit_exact}
use Rattle.ghc_core.proofs.laws.commit_is_exact.Goals as goal

pub returns : goal.returns
returns c = commit_exact
