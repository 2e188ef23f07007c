use Rattle.ghc_core.proofs.ResumedOnce.{told_carried}
use Rattle.ghc_core.proofs.laws.resume_laws.what_is_told_is_carried_out.Goals as goal

pub returns : goal.returns
returns c = told_carried
