use Rattle.ghc_hooks.proofs.Statuses.{status_there}
use Rattle.ghc_hooks.proofs.laws.status_is_of_what_is_looked_at.Goals as goal

pub returns : goal.returns
returns c = status_there
