use Rattle.ghc_unify.proofs.LawProofs.{binds_and_reads}
use Rattle.ghc_unify.proofs.laws.unification_binds_and_reads.Goals as goal

pub returns : goal.returns
returns c = binds_and_reads
