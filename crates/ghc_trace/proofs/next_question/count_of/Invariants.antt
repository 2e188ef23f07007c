use Rattle.ghc_trace.proofs.Words.{◌≡◌, ◌≤◌, take}
use Rattle.ghc_trace.specs.inner.BlameCode.{count_open}
use Rattle.ghc_trace.proofs.next_question.count_of.Given as goal

abbrev pub invariant-loop-is_open : goal.invariant-loop-is_open
invariant-loop-is_open l = (l.count ≡ count_open (take l.is_open-index l.doubts)) × (l.count ≤ l.is_open-index)
