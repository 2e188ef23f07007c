use Rattle.ghc_trace.proofs.Words.{ℕ, length, map, In, Record, held_in, StandsIn, rank, IsKeptAs}
use Rattle.ghc_trace.proofs.Reasoning.{IsSearched}
use Rattle.ghc_trace.proofs.reasons.why.Given as goal

abbrev pub invariant-loop-earlier : goal.invariant-loop-earlier
invariant-loop-earlier l =
    (b : Record) × IsKeptAs (held_in l.records.slots) l.number b × IsSearched (held_in l.records.slots) b (map (rank l.records.slots) l.ahead.keys) l.reasons.items
    × ((p : ℕ) → In p l.ahead.keys → (a : Record) × StandsIn l.records.slots p a)

abbrev pub decreases-loop-earlier : goal.decreases-loop-earlier
decreases-loop-earlier l = length l.ahead.keys
