use Rattle.ghc_records.proofs.Replaying.{replay_once}
use Rattle.ghc_records.proofs.laws.replay_is_one.Goals as goal

pub returns : goal.returns
returns c = replay_once
