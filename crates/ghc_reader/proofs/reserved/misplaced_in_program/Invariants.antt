use Rattle.ghc_reader.proofs.Words.{◌≡◌, [], take, misplaced_program, clause_views}
use Rattle.ghc_reader.proofs.reserved.misplaced_in_program.Given as goal

abbrev pub invariant-loop-clause : goal.invariant-loop-clause
invariant-loop-clause l = misplaced_program (clause_views (take l.clause-index l.clauses)) ≡ []
