use Rattle.ghc_match.proofs.FactProofs.{waits_on_two}
use Rattle.ghc_match.proofs.facts.waits_on_two.Goals as goal

pub returns : goal.returns
returns c = waits_on_two
