use Rattle.ghc_flat.proofs.Tests.{one_among}
use Rattle.ghc_flat.proofs.counting.is_leaf_among.Goals as goal

pub returns-in-Var : goal.returns-in-Var
returns-in-Var c = rw (← c.in-Var.ensures.shown) (one_among c.args.count c.in-Var.x c.is_among.result c.is_among.ensures)
