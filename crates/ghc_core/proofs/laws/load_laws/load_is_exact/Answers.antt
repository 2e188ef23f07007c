use Rattle.ghc_core.proofs.Words.{exact}
use Rattle.ghc_core.proofs.LoadedAgain.{only_world, one_refusal, never_both}
use Rattle.ghc_core.proofs.laws.load_laws.load_is_exact.Goals as goal

pub returns : goal.returns
returns c P query names h result accepted asked form answer =
    let never = never_both P query accepted asked names h in
    exact (only_world P query accepted asked names h) (one_refusal P query accepted asked names h form) never result answer
