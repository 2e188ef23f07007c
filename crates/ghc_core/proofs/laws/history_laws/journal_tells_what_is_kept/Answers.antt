use Rattle.ghc_core.proofs.Histories.{told_kept}
use Rattle.ghc_core.proofs.Moving.{reachable_reached}
use Rattle.ghc_core.proofs.laws.history_laws.journal_tells_what_is_kept.Goals as goal

pub returns : goal.returns
returns c w hands kept shelf r k = told_kept kept shelf (reachable_reached r) k
