use Rattle.ghc_fire.proofs.Steps.{effect_binds}
use Rattle.ghc_fire.proofs.laws.effect_binds_and_reads.Goals as goal

pub returns : goal.returns
returns c = effect_binds
