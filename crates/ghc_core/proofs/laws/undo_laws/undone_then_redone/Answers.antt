use Rattle.ghc_core.proofs.Redoing.{undone_then_redone}
use Rattle.ghc_core.proofs.laws.undo_laws.undone_then_redone.Goals as goal

pub returns : goal.returns
returns c = undone_then_redone
