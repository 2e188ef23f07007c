use Rattle.ghc_flat.proofs.Faults.{check_exact}
use Rattle.ghc_flat.proofs.laws.check_is_exact.Goals as goal

pub returns : goal.returns
returns c = check_exact
