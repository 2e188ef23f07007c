use Rattle.ghc_match.proofs.Outcomes.{outcomes_exclude}
use Rattle.ghc_match.proofs.laws.outcomes_exclude.Goals as goal

pub returns : goal.returns
returns c = outcomes_exclude
