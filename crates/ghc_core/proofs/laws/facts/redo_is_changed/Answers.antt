use Rattle.ghc_core.proofs.Played.{changed_play}
use Rattle.ghc_core.proofs.laws.facts.redo_is_changed.Goals as goal

pub returns : goal.returns
returns c = changed_play
