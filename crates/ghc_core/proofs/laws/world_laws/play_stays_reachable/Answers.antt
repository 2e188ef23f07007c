use Rattle.ghc_core.proofs.Playable.{play_reachable}
use Rattle.ghc_core.proofs.laws.world_laws.play_stays_reachable.Goals as goal

pub returns : goal.returns
returns c = play_reachable
