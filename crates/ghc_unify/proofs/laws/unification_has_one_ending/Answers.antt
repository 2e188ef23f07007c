use Rattle.ghc_unify.proofs.LawProofs.{one_ending}
use Rattle.ghc_unify.proofs.laws.unification_has_one_ending.Goals as goal

pub returns : goal.returns
returns c = one_ending
