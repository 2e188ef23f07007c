use Rattle.ghc_reader.proofs.Words.{misplaced_query_goal, goal_view}
use Rattle.ghc_reader.proofs.Misplaced.{first_mapped}
use Rattle.ghc_reader.proofs.reserved.misplaced_in_query.Goals as goal

pub returns-in-Some : goal.returns-in-Some
returns-in-Some c = first_mapped misplaced_query_goal goal_view c.args.goals.now c.loop-goal.goal-index c.goal-item.result c.in-Some.left c.loop-goal-test.true c.goal-item.is c.loop-goal.invariant c.in-Some.ensures
