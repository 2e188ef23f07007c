use Rattle.ghcdb.proofs.SavedAgain.{opens_again}
use Rattle.ghcdb.proofs.laws.saved_sessions_open_again.Goals as goal

pub returns : goal.returns
returns c = opens_again c.written_chronicles_are_read_again.ensures c.texts_tell_one_chronicle.ensures c.what_is_told_is_carried_out.ensures c.events_lead_where_changes_lead.ensures c.listed_spies_come_back.ensures
