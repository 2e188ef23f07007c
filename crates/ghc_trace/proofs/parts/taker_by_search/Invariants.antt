use Rattle.ghc_trace.proofs.Words.{ℕ, ◌≢◌, ◌<◌, Some, Record, StandsIn}
use Rattle.ghc_trace.proofs.parts.taker_by_search.Given as goal

abbrev pub invariant-loop-place : goal.invariant-loop-place
invariant-loop-place l = (p : ℕ) (r : Record) → p < l.place → StandsIn l.records.slots p r → r.goal ≢ Some l.goal
