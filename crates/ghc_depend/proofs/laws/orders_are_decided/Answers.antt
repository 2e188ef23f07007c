use Rattle.ghc_depend.proofs.Decided.{decided}
use Rattle.ghc_depend.proofs.laws.orders_are_decided.Goals as goal

pub returns : goal.returns
returns c = decided
