use Rattle.ghc_records.proofs.Words.{◌≡◌, ◌++◌, drop, string_bytes, numbers_behind}
use Rattle.ghc_records.proofs.text.entry_text.write_numbers.Given as goal

abbrev pub invariant-loop-number : goal.invariant-loop-number
invariant-loop-number l = string_bytes l.out ++ numbers_behind (drop l.number-index l.numbers) ≡ string_bytes l.fn.out ++ numbers_behind l.numbers
