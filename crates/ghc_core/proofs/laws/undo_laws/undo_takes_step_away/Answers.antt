use Rattle.ghc_core.proofs.Returning.{undo_takes}
use Rattle.ghc_core.proofs.laws.undo_laws.undo_takes_step_away.Goals as goal

pub returns : goal.returns
returns c = undo_takes
