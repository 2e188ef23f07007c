use Rattle.ghc_depend.proofs.Swapping.{by_swaps}
use Rattle.ghc_depend.proofs.laws.orders_are_swaps.Goals as goal

pub returns : goal.returns
returns c = by_swaps
