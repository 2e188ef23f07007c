use Rattle.std.specs.Prelude.{◌⊎◌}
use Rattle.std.proofs.Common.{take}
use Rattle.ghc_term.specs.Lists.{In}
use Rattle.ghc_term.specs.declared.goal_name.GoalName.{GoalName}
use Rattle.ghc_shared.proofs.waking.list_all.Given as goal

abbrev pub invariant-loop-goal : goal.invariant-loop-goal
invariant-loop-goal l = (g : GoalName) → In g l.list.items → In g l.initial.list.items ⊎ In g (take l.goal-index l.goals)
