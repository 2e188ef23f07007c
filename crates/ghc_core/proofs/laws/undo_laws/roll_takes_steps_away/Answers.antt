use Rattle.ghc_core.proofs.Returning.{roll_takes}
use Rattle.ghc_core.proofs.laws.undo_laws.roll_takes_steps_away.Goals as goal

pub returns : goal.returns
returns c = roll_takes
