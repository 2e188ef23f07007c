use Rattle.ghc_hooks.proofs.LookedAt.{looked_alike}
use Rattle.ghc_hooks.proofs.laws.looked_is_of_what_is_looked_at.Goals as goal

pub returns : goal.returns
returns c = looked_alike
