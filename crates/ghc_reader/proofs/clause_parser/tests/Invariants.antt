use Rattle.ghc_reader.proofs.Words.{length, ◌<◌, test_views}
use Rattle.ghc_reader.proofs.GoalLoops.{TestsSoFar}
use Rattle.ghc_reader.proofs.clause_parser.tests.Given as goal

abbrev pub invariant-loop-after : goal.invariant-loop-after
invariant-loop-after l = record {
  read : TestsSoFar l.tokens (test_views l.all.items) l.rest;
  shorter : length l.rest < length l.tokens;
}

abbrev pub decreases-loop-after : goal.decreases-loop-after
decreases-loop-after l = length l.rest
