use Rattle.ghc_core.proofs.Returning.{neighbours_arranged}
use Rattle.ghc_core.proofs.laws.undo_laws.neighbours_are_arranged.Goals as goal

pub returns : goal.returns
returns c = neighbours_arranged
