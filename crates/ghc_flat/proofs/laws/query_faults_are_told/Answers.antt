use Rattle.ghc_flat.proofs.Faults.{query_faults}
use Rattle.ghc_flat.proofs.laws.query_faults_are_told.Goals as goal

pub returns : goal.returns
returns c = query_faults
