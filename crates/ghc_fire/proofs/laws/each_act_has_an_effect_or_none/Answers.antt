use Rattle.ghc_fire.proofs.EachEffect.{each_effect}
use Rattle.ghc_fire.proofs.laws.each_act_has_an_effect_or_none.Goals as goal

pub returns : goal.returns
returns c = each_effect
