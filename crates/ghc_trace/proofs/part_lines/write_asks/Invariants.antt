use Rattle.ghc_trace.proofs.Words.{◌≡◌, ◌++◌, drop, string_bytes, StartsWith}
use Rattle.ghc_trace.specs.PartLines.{asked_lines}
use Rattle.ghc_trace.proofs.part_lines.write_asks.Given as goal

abbrev pub invariant-loop-number : goal.invariant-loop-number
invariant-loop-number l = (string_bytes l.out ++ asked_lines (drop l.number-index l.numbers) ≡ string_bytes l.fn.out ++ asked_lines l.numbers) × StartsWith (string_bytes l.out) (string_bytes l.fn.out)
