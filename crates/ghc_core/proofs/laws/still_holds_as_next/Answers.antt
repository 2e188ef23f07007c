use Rattle.ghc_core.proofs.Numbering.{still_next}
use Rattle.ghc_core.proofs.laws.still_holds_as_next.Goals as goal

pub returns : goal.returns
returns c = still_next
