use Rattle.ghc_reader.proofs.Words.{◌≡◌, map, take, clause_view, largest, names_of_clause, variables}
use Rattle.ghc_reader.proofs.limits.variables.most_variables.Given as goal

abbrev pub invariant-loop-clause : goal.invariant-loop-clause
invariant-loop-clause l = l.most ≡ largest (λ c. variables (names_of_clause c)) (map clause_view (take l.clause-index l.clauses))
