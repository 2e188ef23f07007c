use Rattle.ghc_depend.proofs.ComingBack.{gone_come_back}
use Rattle.ghc_depend.proofs.laws.gone_come_back.Goals as goal

pub returns : goal.returns
returns c = gone_come_back
