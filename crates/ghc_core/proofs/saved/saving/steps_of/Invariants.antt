use Rattle.ghc_core.proofs.Words.{◌≡◌, ◌++◌, drop, map, step_of, held_in, rank}
use Rattle.ghc_core.proofs.saved.saving.steps_of.Given as goal

abbrev pub invariant-loop-place : goal.invariant-loop-place
invariant-loop-place l = l.steps.items ++ map step_of (drop (rank l.records.slots l.place) (held_in l.records.slots)) ≡ map step_of (held_in l.records.slots)
