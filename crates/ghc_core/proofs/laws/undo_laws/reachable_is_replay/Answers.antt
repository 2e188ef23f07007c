use Rattle.ghc_core.proofs.Replayed.{reachable_replay}
use Rattle.ghc_core.proofs.laws.undo_laws.reachable_is_replay.Goals as goal

pub returns : goal.returns
returns c = reachable_replay
