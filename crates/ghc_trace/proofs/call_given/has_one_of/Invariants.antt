use Rattle.ghc_trace.proofs.Words.{ℕ, take, In}
use Rattle.ghc_trace.proofs.call_given.has_one_of.Given as goal

abbrev pub invariant-loop-number : goal.invariant-loop-number
invariant-loop-number l = (n : ℕ) → In n (take l.number-index l.numbers) → ¬ In n l.part.keys
