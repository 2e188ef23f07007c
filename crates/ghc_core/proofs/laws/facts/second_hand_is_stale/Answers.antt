use Rattle.ghc_core.proofs.Played.{stale_play}
use Rattle.ghc_core.proofs.laws.facts.second_hand_is_stale.Goals as goal

pub returns : goal.returns
returns c = stale_play
