use Rattle.ghc_trace.proofs.Words.{take}
use Rattle.ghc_trace.specs.inner.BlameCode.{AreJudged}
use Rattle.ghc_trace.proofs.answered.judged.Given as goal

abbrev pub invariant-loop-answer : goal.invariant-loop-answer
invariant-loop-answer l = AreJudged (take l.answer-index l.answers) l.judged
