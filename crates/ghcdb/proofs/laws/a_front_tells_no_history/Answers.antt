use Rattle.ghcdb.proofs.HistoryFronts.{what_is_read_tells}
use Rattle.ghcdb.proofs.laws.a_front_tells_no_history.Goals as goal

pub returns : goal.returns
returns c = what_is_read_tells
