use Rattle.ghc_reader.proofs.Words.{◌≡◌, ◌++◌, map, take, flat_map, goal_view, names_of_goal}
use Rattle.ghc_reader.proofs.limits.names.push_goals.Given as goal

abbrev pub invariant-loop-goal : goal.invariant-loop-goal
invariant-loop-goal l = l.out.items ≡ l.initial.out.items ++ flat_map names_of_goal (map goal_view (take l.goal-index l.goals))
