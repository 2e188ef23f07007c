use Rattle.ghc_depend.proofs.Undoing.{undone}
use Rattle.ghc_depend.proofs.laws.undo_keeps_replay.Goals as goal

pub returns : goal.returns
returns c = undone
