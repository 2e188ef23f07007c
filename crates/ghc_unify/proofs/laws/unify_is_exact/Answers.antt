use Rattle.ghc_unify.proofs.LawProofs.{unify_exact}
use Rattle.ghc_unify.proofs.laws.unify_is_exact.Goals as goal

pub returns : goal.returns
returns c = unify_exact
