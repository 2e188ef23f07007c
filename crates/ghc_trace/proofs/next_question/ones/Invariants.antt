use Rattle.ghc_trace.proofs.Words.{◌≡◌, take, map}
use Rattle.ghc_trace.specs.inner.BlameCode.{one_of}
use Rattle.ghc_trace.proofs.next_question.ones.Given as goal

abbrev pub invariant-loop-is_open : goal.invariant-loop-is_open
invariant-loop-is_open l = l.ones.items ≡ map one_of (take l.is_open-index l.doubts)
