use Rattle.ghcdb.proofs.EachSave.{stay_tellable}
use Rattle.ghcdb.proofs.laws.sessions_stay_tellable.Goals as goal

pub returns : goal.returns
returns c = stay_tellable c.listed_spies_come_back.ensures c.carried_out_is_legal.ensures c.legal_is_reachable.ensures
