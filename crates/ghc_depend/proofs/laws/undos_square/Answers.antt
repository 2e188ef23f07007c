use Rattle.ghc_depend.proofs.UndosSquare.{undos}
use Rattle.ghc_depend.proofs.laws.undos_square.Goals as goal

pub returns : goal.returns
returns c = undos
