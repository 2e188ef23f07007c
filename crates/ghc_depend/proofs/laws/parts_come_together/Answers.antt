use Rattle.ghc_depend.proofs.Turns.{come_together}
use Rattle.ghc_depend.proofs.laws.parts_come_together.Goals as goal

pub returns : goal.returns
returns c = come_together
