use Rattle.ghc_fire.proofs.FactProofs.{append_run}
use Rattle.ghc_fire.proofs.facts.append_run.Goals as goal

pub returns : goal.returns
returns c = append_run
