use Rattle.ghc_core.proofs.Words.{exact}
use Rattle.ghc_core.proofs.ResumedOnce.{only_world, one_refusal, never_both}
use Rattle.ghc_core.proofs.laws.resume_laws.resume_is_exact.Goals as goal

pub returns : goal.returns
returns c P query names d result sound form answer =
    exact (only_world P query names d sound) (one_refusal P query names d sound form) (never_both P query names d sound) result answer
