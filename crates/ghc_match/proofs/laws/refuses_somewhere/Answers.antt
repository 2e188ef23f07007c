use Rattle.ghc_match.proofs.Refusals.{somewhere}
use Rattle.ghc_match.proofs.laws.refuses_somewhere.Goals as goal

pub returns : goal.returns
returns c = somewhere
