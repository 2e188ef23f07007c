use Rattle.ghc_fire.proofs.EachEffect.{effect_decided}
use Rattle.ghc_fire.proofs.laws.each_effect_is_decided.Goals as goal

pub returns : goal.returns
returns c = effect_decided
