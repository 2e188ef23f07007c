use Rattle.ghc_trace.proofs.Words.{◌≡◌, ◌++◌, ◌-◌, length, drop, string_bytes}
use Rattle.ghc_trace.specs.Explaining.{more_text}
use Rattle.ghc_trace.proofs.explaining.write_more.Given as goal

abbrev pub invariant-loop-place : goal.invariant-loop-place
invariant-loop-place l = string_bytes l.out ++ more_text (drop l.place l.others) ≡ string_bytes l.fn.out ++ more_text (drop l.from l.others)

abbrev pub decreases-loop-place : goal.decreases-loop-place
decreases-loop-place l = length l.others - l.place
