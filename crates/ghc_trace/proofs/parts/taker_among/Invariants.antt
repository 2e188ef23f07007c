use Rattle.ghc_trace.proofs.Words.{◌≡◌, take, Some, In, Record}
use Rattle.ghc_trace.proofs.parts.taker_among.Given as goal

abbrev pub invariant-loop-number : goal.invariant-loop-number
invariant-loop-number l = (r : Record) → In r l.records.held → In r.number (take l.number-index l.numbers) → ¬ (r.goal ≡ Some l.goal)
