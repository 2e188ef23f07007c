use Rattle.ghc_trace.proofs.Blamed.{one}
use Rattle.ghc_trace.proofs.laws.blame_has_one_top.Goals as goal

pub returns : goal.returns
returns c = one
