use Rattle.ghc_reader.proofs.Words.{take, clause_views, Each, SaysClause}
use Rattle.ghc_reader.proofs.lowering.clauses.lower_program.Given as goal

abbrev pub invariant-loop-clause : goal.invariant-loop-clause
invariant-loop-clause l = Each SaysClause (clause_views (take l.clause-index l.clauses)) l.lowered.items
