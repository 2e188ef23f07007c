use Rattle.ghc_match.proofs.Words.{ℤ, ◌↔◌, reverse, EndsAt, Number, Makes, steps}
use Rattle.ghc_match.proofs.number.perform_all.Given as goal

abbrev pub invariant-loop-task : goal.invariant-loop-task
invariant-loop-task l = (k : ℤ) → Number (EndsAt l.scope l.store.held) l.expression k ↔ Makes (EndsAt l.scope l.store.held) (reverse l.tasks.items) (reverse l.values.items) k

abbrev pub decreases-loop-task : goal.decreases-loop-task
decreases-loop-task l = steps (reverse l.tasks.items)
