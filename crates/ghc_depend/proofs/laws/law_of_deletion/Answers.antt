use Rattle.ghc_depend.proofs.Deleting.{deletion}
use Rattle.ghc_depend.proofs.laws.law_of_deletion.Goals as goal

pub returns : goal.returns
returns c = deletion
