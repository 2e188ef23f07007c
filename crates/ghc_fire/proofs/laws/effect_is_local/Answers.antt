use Rattle.ghc_fire.proofs.Steps.{effect_local}
use Rattle.ghc_fire.proofs.laws.effect_is_local.Goals as goal

pub returns : goal.returns
returns c = effect_local
