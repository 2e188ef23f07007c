use Rattle.ghc_reader.proofs.Words.{◌≡◌, map, take, goal_view, largest, levels_of_goal}
use Rattle.std.specs.Prelude.{min}
use Rattle.ghc_reader.proofs.limits.levels.most_levels.Given as goal

abbrev pub invariant-loop-goal : goal.invariant-loop-goal
invariant-loop-goal l = l.most ≡ min (largest levels_of_goal (map goal_view (take l.goal-index l.goals))) 1001
