use Rattle.ghc_match.proofs.FactProofs.{structure_is_no_number}
use Rattle.ghc_match.proofs.facts.structure_is_no_number.Goals as goal

pub returns : goal.returns
returns c = structure_is_no_number
