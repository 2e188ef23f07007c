use Rattle.ghc_core.proofs.Answering.{events_once}
use Rattle.ghc_core.proofs.laws.events_have_one_answer.Goals as goal

pub returns : goal.returns
returns c = events_once
