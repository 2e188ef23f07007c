use Rattle.ghc_depend.proofs.Once.{consequences}
use Rattle.ghc_depend.proofs.laws.consequences_have_one_answer.Goals as goal

pub returns : goal.returns
returns c = consequences
