-- What tests of variables tell.
use Rattle.ghc_term.proofs.Words.{◌≡◌, true, ◌∙◌, VarName}
use Rattle.ghc_term.proofs.Entries.{same, same_is}
use Rattle.ghc_term.proofs.Names.{itself}
pub use Rattle.ghc_term.proofs.ListsLemmas.{in_left as In_append, in_right as In_append_right, in_either as In_either}

pub same_itself : (x : VarName) → same x x ≡ true
same_itself x = same_is x x ∙ itself x
