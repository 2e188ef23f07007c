use Rattle.std.proofs.Common.{length}
use Rattle.ghc_records.proofs.NumberLists.{HasNumbers}
use Rattle.ghc_records.proofs.text.entry_reading.read_numbers.Given as goal

abbrev pub invariant-loop-number : goal.invariant-loop-number
invariant-loop-number l = HasNumbers l.bytes l.numbers.items l.rest

abbrev pub decreases-loop-number : goal.decreases-loop-number
decreases-loop-number l = length l.rest
