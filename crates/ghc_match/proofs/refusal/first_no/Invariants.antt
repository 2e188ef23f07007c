use Rattle.ghc_match.proofs.Words.{ℕ, length, ◌-◌, ◌<◌, value_at, StandsAndEnds, IsNoAt}
use Rattle.ghc_match.proofs.refusal.first_no.Given as goal

abbrev pub invariant-loop-number : goal.invariant-loop-number
invariant-loop-number l = (j : ℕ) → j < l.number → ¬ IsNoAt (StandsAndEnds l.stands (value_at l.store.held)) l.tests j

abbrev pub decreases-loop-number : goal.decreases-loop-number
decreases-loop-number l = length l.tests - l.number
