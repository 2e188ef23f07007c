use Rattle.ghc_hooks.proofs.LookedAt.{exact_stays}
use Rattle.ghc_hooks.proofs.laws.exact_notes_stay_exact.Goals as goal

pub returns : goal.returns
returns c = exact_stays
