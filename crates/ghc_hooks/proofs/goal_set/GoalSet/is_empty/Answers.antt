use Rattle.ghc_hooks.proofs.Words.{arith, nat_tests}
use Rattle.std.specs.FinSet as set
use Rattle.ghc_hooks.proofs.goal_set.GoalSet.is_empty.Goals as goal

pub returns : goal.returns
returns c = grind (arith, set.empty_of_len, nat_tests, set.len-empty)
