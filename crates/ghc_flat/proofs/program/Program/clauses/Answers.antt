use Rattle.ghc_flat.proofs.Words.{subst, IsProgram}
use Rattle.ghc_flat.proofs.program.Program.clauses.Goals as goal

pub returns-clause-program : goal.returns-clause-program
returns-clause-program c = subst IsProgram c.self.view_is c.self.invariant.0
