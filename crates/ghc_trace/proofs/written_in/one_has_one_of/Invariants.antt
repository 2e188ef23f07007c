use Rattle.ghc_trace.proofs.Words.{take}
use Rattle.ghc_trace.specs.inner.WhyNotCode.{HasOneOf}
use Rattle.ghc_trace.proofs.WrittenIn.{NoneOf}
use Rattle.ghc_trace.proofs.written_in.one_has_one_of.Given as goal

abbrev pub invariant-loop-term : goal.invariant-loop-term
invariant-loop-term l = NoneOf (HasOneOf l.xs) (take l.term-index l.terms)
