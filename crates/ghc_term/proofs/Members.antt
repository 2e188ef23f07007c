-- What is said of each member of a list goes over to its set (passed on; the lemmas stand in ListsLemmas and SetsLemmas).
pub use Rattle.ghc_term.proofs.ListsLemmas.{each_next as one_more_member, in_get as In_at}
pub use Rattle.ghc_term.proofs.SetsLemmas.{has_member}
pub use Rattle.ghc_term.proofs.MapsLemmas.{at_some}
