use Rattle.ghc_fire.proofs.Words.{◌≡◌, map, take, replace_in_goal, replacement}
use Rattle.ghc_fire.proofs.instances.replace_goals.Given as goal

abbrev pub invariant-loop-goal : goal.invariant-loop-goal
invariant-loop-goal l = l.replaced.items ≡ map (replace_in_goal (replacement l.by)) (take l.goal-index l.goals)
