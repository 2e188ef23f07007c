use Rattle.ghc_reader.proofs.Words.{take, variables_of_goals, goal_views, Each, SaysGoal, doing, MeetsAll}
use Rattle.ghc_reader.proofs.lowering.goals.lower_body.Given as goal

abbrev pub invariant-loop-goal : goal.invariant-loop-goal
invariant-loop-goal l = record {
  says : Each (SaysGoal l.scope) (doing (goal_views (take l.goal-index l.goals))) l.lowered.items;
  met : MeetsAll l.initial.scope (variables_of_goals l.lowered.items) l.scope;
}
