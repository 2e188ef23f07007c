use Rattle.ghc_depend.proofs.Among.{among}
use Rattle.ghc_depend.proofs.laws.parts_run_among_others.Goals as goal

pub returns : goal.returns
returns c = among
