use Rattle.ghc_trace.proofs.Blamed.{sound}
use Rattle.ghc_trace.proofs.laws.blame_is_sound.Goals as goal

pub returns : goal.returns
returns c = sound
