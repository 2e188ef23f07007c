use Rattle.ghc_depend.proofs.Turning.{turned}
use Rattle.ghc_depend.proofs.laws.replaying_orders_are_lawful.Goals as goal

pub returns : goal.returns
returns c = turned
