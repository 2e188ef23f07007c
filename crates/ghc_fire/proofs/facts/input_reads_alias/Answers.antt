use Rattle.ghc_fire.proofs.FactProofs.{input_reads_alias}
use Rattle.ghc_fire.proofs.facts.input_reads_alias.Goals as goal

pub returns : goal.returns
returns c = input_reads_alias
