use Rattle.ghc_records.proofs.Words.{◌≡◌, ◌++◌, ◌∷◌, drop, length, map, string_bytes, lines_text, entry_text, entries_line}
use Rattle.ghc_records.proofs.text.chronicle_writing.write_entries.Given as goal

abbrev pub invariant-loop-place : goal.invariant-loop-place
invariant-loop-place l =
    string_bytes l.out ++ lines_text (map entry_text (drop l.place l.journal.held))
    ≡ string_bytes l.fn.out ++ lines_text (entries_line (length (drop l.fn.first l.journal.held)) ∷ map entry_text (drop l.fn.first l.journal.held))
