use Rattle.ghc_trace.proofs.CallAnswers.{IsBestSoFar}
use Rattle.ghc_trace.proofs.next_question.next_question.Given as goal

abbrev pub invariant-loop-place : goal.invariant-loop-place
invariant-loop-place l = IsBestSoFar l.calls.list.items l.doubts l.weights.items l.count l.place l.best
