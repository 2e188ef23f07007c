use Rattle.ghc_depend.proofs.UndoSquare.{undo_and_step}
use Rattle.ghc_depend.proofs.laws.undo_and_step_square.Goals as goal

pub returns : goal.returns
returns c = undo_and_step
