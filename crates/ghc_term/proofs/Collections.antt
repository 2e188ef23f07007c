-- Sets of variables and the lists that hold them (passed on; the lemmas stand in SetsLemmas).
pub use Rattle.ghc_term.proofs.SetsLemmas.{has_at}
