use Rattle.ghc_depend.proofs.SameText.{same_text}
use Rattle.ghc_depend.proofs.laws.same_from_has_the_same_text.Goals as goal

pub returns : goal.returns
returns c = same_text
