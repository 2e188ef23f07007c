use Rattle.ghc_depend.proofs.UndoSquare.{undoing}
use Rattle.ghc_depend.proofs.laws.undoing_ends.Goals as goal

pub returns : goal.returns
returns c = undoing
