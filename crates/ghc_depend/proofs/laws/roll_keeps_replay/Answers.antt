use Rattle.ghc_depend.proofs.Undoing.{rolled}
use Rattle.ghc_depend.proofs.laws.roll_keeps_replay.Goals as goal

pub returns : goal.returns
returns c = rolled
