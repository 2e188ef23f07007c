use Rattle.ghc_core.proofs.Returning.{step_then_undo}
use Rattle.ghc_core.proofs.laws.undo_laws.step_then_undo.Goals as goal

pub returns : goal.returns
returns c = step_then_undo
