use Rattle.ghc_match.proofs.Outcomes.{outcome_there}
use Rattle.ghc_match.proofs.laws.outcome_is_of_what_is_looked_at.Goals as goal

pub returns : goal.returns
returns c = outcome_there
