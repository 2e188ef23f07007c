use Rattle.std.specs.Prelude.{◌⊎◌}
use Rattle.ghc_term.specs.Lists.{In}
use Rattle.ghc_term.specs.declared.goal_name.GoalName.{GoalName}
use Rattle.ghc_shared.specs.inner.Calls.{LooksAmong}
use Rattle.ghc_shared.proofs.waking.list_woken.Given as goal

abbrev pub invariant-loop-x : goal.invariant-loop-x
invariant-loop-x l = (g : GoalName) → In g l.list.items → In g l.initial.list.items ⊎ LooksAmong l.core.world l.binds g
