use Rattle.ghc_fire.proofs.FactProofs.{input_and_close}
use Rattle.ghc_fire.proofs.facts.input_and_close.Goals as goal

pub returns : goal.returns
returns c = input_and_close
