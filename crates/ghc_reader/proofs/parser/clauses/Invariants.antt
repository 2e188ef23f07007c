use Rattle.ghc_reader.proofs.Words.{length, clause_views}
use Rattle.ghc_reader.proofs.GoalLoops.{ClausesSoFar}
use Rattle.ghc_reader.proofs.parser.clauses.Given as goal

abbrev pub invariant-loop-rest : goal.invariant-loop-rest
invariant-loop-rest l = ClausesSoFar l.tokens (clause_views l.clauses.items) l.rest

abbrev pub decreases-loop-rest : goal.decreases-loop-rest
decreases-loop-rest l = length l.rest
