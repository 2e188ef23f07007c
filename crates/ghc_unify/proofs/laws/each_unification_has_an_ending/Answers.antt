use Rattle.ghc_unify.proofs.Endings.{each_ending}
use Rattle.ghc_unify.proofs.laws.each_unification_has_an_ending.Goals as goal

pub returns : goal.returns
returns c = each_ending
