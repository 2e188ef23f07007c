use Rattle.ghc_trace.proofs.Words.{◌≡◌, ◌++◌, List, ℕ, take, string_bytes}
use Rattle.ghc_trace.specs.Explaining.{AreStepLines}
use Rattle.ghc_trace.proofs.explaining.push_steps.Given as goal

abbrev pub invariant-loop-number : goal.invariant-loop-number
invariant-loop-number l = (text : List ℕ) × AreStepLines l.core.world (take l.number-index l.numbers) text × (string_bytes l.out ≡ string_bytes l.fn.out ++ text)
