use Rattle.ghc_fire.proofs.Steps.{effect_acyclic}
use Rattle.ghc_fire.proofs.laws.effect_keeps_acyclic.Goals as goal

pub returns : goal.returns
returns c = effect_acyclic
