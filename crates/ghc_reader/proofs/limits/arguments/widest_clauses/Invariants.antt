use Rattle.ghc_reader.proofs.Words.{◌≡◌, map, take, clause_view, largest, widest_clause}
use Rattle.ghc_reader.proofs.limits.arguments.widest_clauses.Given as goal

abbrev pub invariant-loop-clause : goal.invariant-loop-clause
invariant-loop-clause l = l.most ≡ largest widest_clause (map clause_view (take l.clause-index l.clauses))
