use Rattle.ghc_fire.proofs.Under.{effect_under}
use Rattle.ghc_fire.proofs.laws.effect_under_a_number.Goals as goal

pub returns : goal.returns
returns c = effect_under
