use Rattle.ghc_fire.proofs.FactProofs.{bound_tail_takes_nothing}
use Rattle.ghc_fire.proofs.facts.bound_tail_takes_nothing.Goals as goal

pub returns : goal.returns
returns c = bound_tail_takes_nothing
