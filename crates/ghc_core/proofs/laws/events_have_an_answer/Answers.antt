use Rattle.ghc_core.proofs.EachAnswered.{events_answered}
use Rattle.ghc_core.proofs.laws.events_have_an_answer.Goals as goal

pub returns : goal.returns
returns c = events_answered
