use Rattle.ghc_core.proofs.Moving.{reachable_reached}
use Rattle.ghc_core.proofs.Taking.{reached_reachable}
use Rattle.ghc_core.proofs.laws.events_lead_where_changes_lead.Goals as goal

pub returns : goal.returns
returns c = ((λ w hands r. reachable_reached r), λ w r. reached_reachable r)
