use Rattle.ghcdb.proofs.EachSave.{each_save}
use Rattle.ghcdb.proofs.laws.each_save_opens_again.Goals as goal

pub returns : goal.returns
returns c = each_save c.written_chronicles_are_read_again.ensures c.texts_tell_one_chronicle.ensures c.what_is_told_is_carried_out.ensures c.events_lead_where_changes_lead.ensures c.listed_spies_come_back.ensures c.carried_out_is_legal.ensures c.legal_is_reachable.ensures
