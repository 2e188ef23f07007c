use Rattle.ghc_fire.proofs.Under.{proposal_under}
use Rattle.ghc_fire.proofs.laws.proposal_is_effect.Goals as goal

pub returns : goal.returns
returns c = proposal_under
