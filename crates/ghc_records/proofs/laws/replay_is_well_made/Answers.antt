use Rattle.ghc_records.proofs.Replaying.{replay_well}
use Rattle.ghc_records.proofs.laws.replay_is_well_made.Goals as goal

pub returns : goal.returns
returns c = replay_well
