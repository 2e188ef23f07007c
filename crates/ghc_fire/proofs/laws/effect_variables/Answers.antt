use Rattle.ghc_fire.proofs.Origins.{variables_come}
use Rattle.ghc_fire.proofs.laws.effect_variables.Goals as goal

pub returns : goal.returns
returns c = variables_come
