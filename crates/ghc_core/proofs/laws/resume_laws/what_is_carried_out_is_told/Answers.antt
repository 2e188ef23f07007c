use Rattle.ghc_core.proofs.ResumedOnce.{carried_told}
use Rattle.ghc_core.proofs.laws.resume_laws.what_is_carried_out_is_told.Goals as goal

pub returns : goal.returns
returns c = carried_told
