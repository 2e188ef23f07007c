use Rattle.std.proofs.Common.{◌≡◌, take}
use Rattle.ghc_records.proofs.table.number_set.tabled.Given as goal

abbrev pub invariant-loop-number : goal.invariant-loop-number
invariant-loop-number l = l.table.keys ≡ take l.number-index l.numbers
