use Rattle.ghc_reader.proofs.Words.{misplaced_clause, clause_view}
use Rattle.ghc_reader.proofs.Misplaced.{first_mapped}
use Rattle.ghc_reader.proofs.reserved.misplaced_in_program.Goals as goal

pub returns-in-Some : goal.returns-in-Some
returns-in-Some c = first_mapped misplaced_clause clause_view c.args.clauses.now c.loop-clause.clause-index c.clause-item.result c.in-Some.left c.loop-clause-test.true c.clause-item.is c.loop-clause.invariant c.in-Some.ensures
