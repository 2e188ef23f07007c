use Rattle.ghc_depend.proofs.OfClauses.{of_clauses}
use Rattle.ghc_depend.proofs.laws.replay_is_of_its_clauses.Goals as goal

pub returns : goal.returns
returns c = of_clauses
