use Rattle.ghc_unify.proofs.LawProofs.{change_places}
use Rattle.ghc_unify.proofs.laws.unifications_commute.Goals as goal

pub returns : goal.returns
returns c = change_places
