use Rattle.ghc_pool.proofs.AtTheEnd.{adds_at_the_end}
use Rattle.ghc_pool.proofs.laws.runs_add_at_the_end.Goals as goal

pub returns : goal.returns
returns c = adds_at_the_end
