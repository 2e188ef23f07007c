use Rattle.ghc_depend.proofs.Turning.{square}
use Rattle.ghc_depend.proofs.laws.steps_square.Goals as goal

pub returns : goal.returns
returns c = square
