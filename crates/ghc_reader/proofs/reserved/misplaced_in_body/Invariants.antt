use Rattle.ghc_reader.proofs.Words.{◌≡◌, [], take, misplaced_body, goal_views}
use Rattle.ghc_reader.proofs.reserved.misplaced_in_body.Given as goal

abbrev pub invariant-loop-goal : goal.invariant-loop-goal
invariant-loop-goal l = misplaced_body (goal_views (take l.goal-index l.goals)) ≡ []
