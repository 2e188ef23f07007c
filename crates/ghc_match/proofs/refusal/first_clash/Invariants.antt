use Rattle.ghc_match.proofs.Words.{ℕ, length, ◌-◌, ◌<◌, value_at, MismatchIn}
use Rattle.ghc_match.proofs.refusal.first_clash.Given as goal

abbrev pub invariant-loop-number : goal.invariant-loop-number
invariant-loop-number l = (j : ℕ) → j < l.number → ¬ MismatchIn l.clause l.arguments (value_at l.store.held) j

abbrev pub decreases-loop-number : goal.decreases-loop-number
decreases-loop-number l = length l.arguments - l.number
