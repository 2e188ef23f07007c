use Rattle.ghc_core.proofs.ResumedOnce.{carried_legal}
use Rattle.ghc_core.proofs.laws.resume_laws.carried_out_is_legal.Goals as goal

pub returns : goal.returns
returns c P query names d w sound carried = carried_legal P query names d sound w carried
