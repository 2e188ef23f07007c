use Rattle.ghc_core.proofs.ToldResumed.{can_be_resumed}
use Rattle.ghc_core.proofs.laws.resume_laws.what_is_read_can_be_resumed.Goals as goal

pub returns : goal.returns
returns c text d told = can_be_resumed text d told
