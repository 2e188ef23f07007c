use Rattle.ghc_records.proofs.Words.{◌≡◌, ◌++◌, ◌∷◌, drop, length, map, string_bytes, lines_text, predicate_text, spies_line}
use Rattle.ghc_records.proofs.text.chronicle_writing.write_spies.Given as goal

abbrev pub invariant-loop-predicate : goal.invariant-loop-predicate
invariant-loop-predicate l =
    string_bytes l.out ++ lines_text (map predicate_text (drop l.predicate-index l.spies)) ≡ string_bytes l.fn.out ++ lines_text (spies_line (length l.spies) ∷ map predicate_text l.spies)
