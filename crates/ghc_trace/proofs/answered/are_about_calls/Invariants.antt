use Rattle.ghc_trace.proofs.Words.{◌≡◌, ℕ, take, In}
use Rattle.ghc_trace.specs.declared.judgements.Answer.{Answer}
use Rattle.ghc_trace.specs.declared.slice_calls.Call.{Call}
use Rattle.ghc_trace.specs.inner.BlameCode.{StandsAtPlace}
use Rattle.ghc_trace.proofs.answered.are_about_calls.Given as goal

abbrev pub invariant-loop-answer : goal.invariant-loop-answer
invariant-loop-answer l = (a : Answer) → In a (take l.answer-index l.answers) → (i : ℕ) × (c : Call) × StandsAtPlace l.calls.list.items i c × (c.name ≡ a.goal)
