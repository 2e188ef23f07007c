use Rattle.ghc_hooks.proofs.Words.{is_some, names_of, in_names, taken_name, arith}
use Rattle.ghc_hooks.proofs.goal_set.GoalSet.remove.Goals as goal

pub returns-clause-there : goal.returns-clause-there
returns-clause-there c = grind (arith, is_some, in_names)

pub returns-clause-held : goal.returns-clause-held
returns-clause-held c = grind (arith, names_of, taken_name)
