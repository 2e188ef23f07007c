use Rattle.ghc_pool.proofs.AtTheEnd.{reduces}
use Rattle.ghc_pool.proofs.laws.runs_reduce.Goals as goal

pub returns : goal.returns
returns c = reduces
