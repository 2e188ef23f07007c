use Rattle.ghc_match.proofs.Values.{value_looks}
use Rattle.ghc_match.proofs.laws.value_looks_at_its_terms.Goals as goal

pub returns : goal.returns
returns c = value_looks
