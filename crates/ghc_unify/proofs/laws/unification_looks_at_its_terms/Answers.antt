use Rattle.ghc_unify.proofs.Agree.{looks_at_terms}
use Rattle.ghc_unify.proofs.laws.unification_looks_at_its_terms.Goals as goal

pub returns : goal.returns
returns c = looks_at_terms
