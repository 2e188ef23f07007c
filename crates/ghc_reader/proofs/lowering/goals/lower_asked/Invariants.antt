use Rattle.ghc_reader.proofs.Words.{◌≡◌, take, length, filter, variables_of_goals, goal_views, is_stream, Each, SaysAsked, AreCounted, doing, MeetsAll}
use Rattle.ghc_reader.proofs.lowering.goals.lower_asked.Given as goal

abbrev pub invariant-loop-goal : goal.invariant-loop-goal
invariant-loop-goal l = record {
  says : Each (SaysAsked l.scope) (doing (goal_views (take l.goal-index l.goals))) l.lowered.items;
  met : MeetsAll l.initial.scope (variables_of_goals l.lowered.items) l.scope;
  streams : AreCounted l.lowered.items;
  count : l.streams ≡ length (filter is_stream l.lowered.items);
}
