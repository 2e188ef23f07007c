use Rattle.ghc_depend.proofs.Among.{others_see}
use Rattle.ghc_depend.proofs.laws.others_see_what_parts_gave.Goals as goal

pub returns : goal.returns
returns c = others_see
