use Rattle.ghc_depend.proofs.Append.{orders}
use Rattle.ghc_depend.proofs.facts.append_orders.Goals as goal

pub returns : goal.returns
returns c = orders
