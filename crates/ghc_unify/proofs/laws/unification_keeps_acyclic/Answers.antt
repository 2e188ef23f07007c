use Rattle.ghc_unify.proofs.LawProofs.{keeps_acyclic}
use Rattle.ghc_unify.proofs.laws.unification_keeps_acyclic.Goals as goal

pub returns : goal.returns
returns c = keeps_acyclic
