use Rattle.ghc_depend.proofs.Parting.{faults}
use Rattle.ghc_depend.proofs.laws.wrong_parts_have_faults.Goals as goal

pub returns : goal.returns
returns c = faults
