use Rattle.ghc_fire.proofs.Steps.{effect_each}
use Rattle.ghc_fire.proofs.laws.effect_under_each_number.Goals as goal

pub returns : goal.returns
returns c = effect_each
