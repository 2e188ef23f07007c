use Rattle.ghc_pool.proofs.Words.{GoalName, In, IsInQuestion, IsSpiedIn}
use Rattle.ghc_pool.proofs.runs.survey.first_spied.Given as goal

abbrev pub invariant-loop-goal : goal.invariant-loop-goal
invariant-loop-goal l = record {
  there : (g : GoalName) → In g l.goal-iterator → In g l.goals.keys;
  left : (g : GoalName) → In g l.goals.keys → IsInQuestion l.root l.core.world.kept g → IsSpiedIn l.spies l.core.world g → In g l.goal-iterator;
}
