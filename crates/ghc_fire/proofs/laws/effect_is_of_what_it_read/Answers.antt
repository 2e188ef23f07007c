use Rattle.ghc_fire.proofs.Steps.{effect_of_reads}
use Rattle.ghc_fire.proofs.laws.effect_is_of_what_it_read.Goals as goal

pub returns : goal.returns
returns c = effect_of_reads
