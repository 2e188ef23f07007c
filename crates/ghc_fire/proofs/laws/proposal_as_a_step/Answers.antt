use Rattle.ghc_fire.proofs.Under.{proposal_as}
use Rattle.ghc_fire.proofs.laws.proposal_as_a_step.Goals as goal

pub returns : goal.returns
returns c = proposal_as
