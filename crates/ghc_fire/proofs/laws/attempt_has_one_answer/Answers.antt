use Rattle.ghc_fire.proofs.Tries.{attempt_once}
use Rattle.ghc_fire.proofs.laws.attempt_has_one_answer.Goals as goal

pub returns : goal.returns
returns c = attempt_once
