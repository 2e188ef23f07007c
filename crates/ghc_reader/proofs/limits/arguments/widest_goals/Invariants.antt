use Rattle.ghc_reader.proofs.Words.{◌≡◌, map, take, goal_view, largest, widest_goal}
use Rattle.ghc_reader.proofs.limits.arguments.widest_goals.Given as goal

abbrev pub invariant-loop-goal : goal.invariant-loop-goal
invariant-loop-goal l = l.most ≡ largest widest_goal (map goal_view (take l.goal-index l.goals))
