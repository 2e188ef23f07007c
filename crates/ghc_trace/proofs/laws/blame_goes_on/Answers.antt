use Rattle.ghc_trace.proofs.Blamed.{on}
use Rattle.ghc_trace.proofs.laws.blame_goes_on.Goals as goal

pub returns : goal.returns
returns c = on
