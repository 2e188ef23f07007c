use Rattle.ghc_trace.proofs.Words.{◌≡◌, ◌++◌, drop, numbers, held_in}
use Rattle.ghc_trace.proofs.parts.all_numbers.Given as goal

abbrev pub invariant-loop-place : goal.invariant-loop-place
invariant-loop-place l = l.all.items ++ numbers (held_in (drop l.place l.records.slots)) ≡ numbers (held_in l.records.slots)
