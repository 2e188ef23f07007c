use Rattle.ghc_console.proofs.CitedWords.{◌≡◌, ◌++◌, List, drop, string_bytes, In, Record, numbers, record_lines}
use Rattle.ghc_console.proofs.replies.effects.step_lines.Given as goal

abbrev pub invariant-loop-number : goal.invariant-loop-number
invariant-loop-number l =
    (steps : List Record) → ((r : Record) → In r steps → In r l.records.held) → numbers steps ≡ l.ns
    → string_bytes l.reply ++ record_lines (drop l.number-index steps) ≡ string_bytes l.fn.reply ++ record_lines steps
