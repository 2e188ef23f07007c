use Rattle.ghc_flat.proofs.Words.{AreTablesOf}
use Rattle.ghc_flat.proofs.firsts.Firsts.of.Given as goal

abbrev pub invariant-loop-clause : goal.invariant-loop-clause
invariant-loop-clause l = AreTablesOf l.clauses l.tables.entries
