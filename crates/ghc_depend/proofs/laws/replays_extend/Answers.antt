use Rattle.ghc_depend.proofs.Parabola.{extended}
use Rattle.ghc_depend.proofs.laws.replays_extend.Goals as goal

pub returns : goal.returns
returns c = extended
