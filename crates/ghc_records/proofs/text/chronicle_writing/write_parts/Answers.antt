use Rattle.ghc_records.proofs.Words.{◌++◌, ◌∷◌, drop, length, map, ap, ◌∙◌, string_bytes, lines_text, chronicle_of, entry_text, entries_line}
use Rattle.ghc_records.proofs.ChronicleWritten.{chronicle_written}
use Rattle.ghc_records.proofs.text.chronicle_writing.write_parts.Goals as goal

pub returns : goal.returns
returns c =
    let held = c.args.journal.now.held in
    let entries = ap (λ steps. string_bytes c.write_opening.new.out ++ lines_text (entries_line (length (drop (length steps) held)) ∷ map entry_text (drop (length steps) held))) c.steps.ensures.steps in
    chronicle_written (chronicle_of c.args.opening.now held c.args.spies.now c.args.next) (string_bytes c.args.out.now) (string_bytes c.write_opening.new.out) (string_bytes c.write_entries.new.out)
    (string_bytes c.write_spies.new.out) (string_bytes c.write_end.new.out) c.in_ok-write_opening.ensures (c.in_ok-write_entries.ensures ∙ entries) c.in_ok-write_spies.ensures c.in_ok-write_end.ensures
