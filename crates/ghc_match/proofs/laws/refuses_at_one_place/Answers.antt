use Rattle.ghc_match.proofs.Refusals.{one_place}
use Rattle.ghc_match.proofs.laws.refuses_at_one_place.Goals as goal

pub returns : goal.returns
returns c = one_place
