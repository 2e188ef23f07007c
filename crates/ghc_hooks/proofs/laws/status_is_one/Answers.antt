use Rattle.ghc_hooks.proofs.Statuses.{status_once}
use Rattle.ghc_hooks.proofs.laws.status_is_one.Goals as goal

pub returns : goal.returns
returns c = status_once
