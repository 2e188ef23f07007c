use Rattle.ghc_hooks.proofs.Words.{arith}
use Rattle.ghc_hooks.proofs.Looking.{goal_in_set}
use Rattle.ghc_hooks.proofs.Waking.{first_is, first_is_none}
use Rattle.ghc_hooks.proofs.goal_set.GoalSet.any.Goals as goal

pub returns-clause-some : goal.returns-clause-some
returns-clause-some c = grind (arith, first_is, goal_in_set)

pub returns-clause-none : goal.returns-clause-none
returns-clause-none c = grind (arith, first_is_none)
