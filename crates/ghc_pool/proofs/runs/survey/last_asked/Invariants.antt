use Rattle.ghc_pool.proofs.Words.{◌≡◌, ◌≤◌, ◌++◌, List, length, reverse, GoalName, IsInQuestion, AreThose}
use Rattle.ghc_pool.proofs.runs.survey.last_asked.Given as goal

abbrev pub invariant-loop-names : goal.invariant-loop-names
invariant-loop-names l = record {
  seen : List GoalName;
  split : l.goals.keys ≡ l.names ++ seen;
  those : AreThose (IsInQuestion l.root l.core.world.kept) seen (reverse l.listed.items);
  few : length l.listed.items ≤ l.most;
}

abbrev pub decreases-loop-names : goal.decreases-loop-names
decreases-loop-names l = length l.names
