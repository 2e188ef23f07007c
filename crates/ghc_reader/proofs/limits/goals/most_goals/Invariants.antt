use Rattle.ghc_reader.proofs.Words.{◌≡◌, map, take, clause_view, largest, goals_of_clause}
use Rattle.ghc_reader.proofs.limits.goals.most_goals.Given as goal

abbrev pub invariant-loop-clause : goal.invariant-loop-clause
invariant-loop-clause l = l.most ≡ largest goals_of_clause (map clause_view (take l.clause-index l.clauses))
