use Rattle.ghc_reader.proofs.Words.{goal_view, names_of_goal}
use Rattle.ghc_reader.proofs.AmountLemmas.{push_more}
use Rattle.ghc_reader.proofs.limits.names.push_goals.Goals as goal

pub loop-goal-preserved : goal.loop-goal-preserved
loop-goal-preserved c = push_more names_of_goal goal_view c.args.goals.now c.loop-goal.goal-index c.goal-item.result _ _ _ c.loop-goal-test.true c.goal-item.is c.loop-goal.invariant c.in_ok-push_goal.ensures
