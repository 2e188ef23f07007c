use Rattle.ghc_unify.proofs.SolutionLemmas.{solutions}
use Rattle.ghc_unify.proofs.laws.unification_keeps_solutions.Goals as goal

pub returns : goal.returns
returns c = solutions
