use Rattle.ghcdb.proofs.SessionsOpened.{what_opens}
use Rattle.ghcdb.proofs.laws.what_opens_is_a_session.Goals as goal

pub returns : goal.returns
returns c = what_opens c.carried_out_is_legal.ensures c.legal_is_reachable.ensures c.events_lead_where_changes_lead.ensures
