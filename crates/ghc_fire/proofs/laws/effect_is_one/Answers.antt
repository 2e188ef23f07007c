use Rattle.ghc_fire.proofs.Steps.{effect_once}
use Rattle.ghc_fire.proofs.laws.effect_is_one.Goals as goal

pub returns : goal.returns
returns c = effect_once
