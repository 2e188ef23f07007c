use Rattle.ghc_hooks.proofs.LookedAt.{waits_for_looked}
use Rattle.ghc_hooks.proofs.laws.goals_wait_for_what_they_look_at.Goals as goal

pub returns : goal.returns
returns c = waits_for_looked
