use Rattle.ghcdb.proofs.IsStarted.{start_exact}
use Rattle.ghcdb.proofs.laws.start_is_exact.Goals as goal

pub returns : goal.returns
returns c = start_exact
