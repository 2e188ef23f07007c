use Rattle.ghcdb.proofs.SessionsStay.{stay}
use Rattle.ghcdb.proofs.laws.sessions_stay_sessions.Goals as goal

pub returns : goal.returns
returns c = stay
