-- Sets and maps that hold the same are the same (passed on; the lemmas stand in SetsLemmas and MapsLemmas).
pub use Rattle.ghc_term.proofs.SetsLemmas.{one_set, set_of}
pub use Rattle.ghc_term.proofs.MapsLemmas.{one_map}
