use Rattle.ghc_fire.proofs.Tries.{attempt_there}
use Rattle.ghc_fire.proofs.laws.attempt_is_of_what_is_looked_at.Goals as goal

pub returns : goal.returns
returns c = attempt_there
