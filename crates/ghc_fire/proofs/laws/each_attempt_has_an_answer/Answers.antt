use Rattle.ghc_fire.proofs.EachAnswer.{each_answer}
use Rattle.ghc_fire.proofs.laws.each_attempt_has_an_answer.Goals as goal

pub returns : goal.returns
returns c = each_answer
