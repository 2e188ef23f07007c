use Rattle.ghc_unify.proofs.LawProofs.{is_local}
use Rattle.ghc_unify.proofs.laws.unification_is_local.Goals as goal

pub returns : goal.returns
returns c = is_local
