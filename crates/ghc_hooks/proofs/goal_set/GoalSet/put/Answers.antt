use Rattle.ghc_hooks.proofs.Words.{names_of, put_name, arith}
use Rattle.ghc_hooks.proofs.goal_set.GoalSet.put.Goals as goal

pub returns-clause-held : goal.returns-clause-held
returns-clause-held c = grind (arith, names_of, put_name)
