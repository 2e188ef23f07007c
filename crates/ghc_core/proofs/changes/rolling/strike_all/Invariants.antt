use Rattle.ghc_core.proofs.Words.{◌≤◌, length, drop, In, Picks}
use Rattle.ghc_core.proofs.changes.rolling.strike_all.Given as goal

abbrev pub invariant-loop-place : goal.invariant-loop-place
invariant-loop-place l = (l.place ≤ length l.removals) × Picks (λ s. ¬ In s (drop l.place l.removals)) l.initial.records.held l.records.held

abbrev pub decreases-loop-place : goal.decreases-loop-place
decreases-loop-place l = l.place
