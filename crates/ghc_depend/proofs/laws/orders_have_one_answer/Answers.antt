use Rattle.ghc_depend.proofs.Once.{orders}
use Rattle.ghc_depend.proofs.laws.orders_have_one_answer.Goals as goal

pub returns : goal.returns
returns c = orders
