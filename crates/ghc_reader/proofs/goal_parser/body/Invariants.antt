use Rattle.ghc_reader.proofs.Words.{length, ◌<◌, goal_views}
use Rattle.ghc_reader.proofs.GoalLoops.{BodySoFar}
use Rattle.ghc_reader.proofs.goal_parser.body.Given as goal

abbrev pub invariant-loop-after : goal.invariant-loop-after
invariant-loop-after l = record {
  read : BodySoFar l.tokens (goal_views l.goals.items) l.rest;
  shorter : length l.rest < length l.tokens;
}

abbrev pub decreases-loop-after : goal.decreases-loop-after
decreases-loop-after l = length l.rest
