use Rattle.ghc_reader.proofs.Words.{clause_views}
use Rattle.ghc_reader.proofs.read.read_program.Goals as goal

pub returns-clause-answer : goal.returns-clause-answer
returns-clause-answer c = ((clause_views c.in_ok-clauses.clauses.items, c.in_ok-clauses.ensures.found, rw c.deref.ensures.value at c.in_ok-source.ensures), tt)
