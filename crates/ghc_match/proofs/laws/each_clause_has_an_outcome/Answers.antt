use Rattle.ghc_match.proofs.EachOutcome.{each_outcome}
use Rattle.ghc_match.proofs.laws.each_clause_has_an_outcome.Goals as goal

pub returns : goal.returns
returns c = each_outcome
