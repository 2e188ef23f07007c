use Rattle.ghc_reader.proofs.Words.{subst, AreWellWritten}
use Rattle.ghc_reader.proofs.written.Source.into_clauses.Goals as goal

pub returns-clause-well_written : goal.returns-clause-well_written
returns-clause-well_written c = subst AreWellWritten c.self.view_is c.self.invariant
