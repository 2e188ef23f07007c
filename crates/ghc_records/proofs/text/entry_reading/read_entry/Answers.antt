use Rattle.ghc_records.proofs.Words.{ℕ, List, IfNone, subst, Step, reordered, took, SaysEntry}
use Rattle.ghc_records.proofs.EntryLines.{no_entry}
use Rattle.ghc_records.proofs.text.entry_reading.read_entry.Goals as goal

pub returns-in-Ok-None-read_taken-clause-none : goal.returns-in-Ok-None-read_taken-clause-none
returns-in-Ok-None-read_taken-clause-none c =
    let line = c.args.line.now in
    no_entry line c.in_default.ensures.undo c.in_default.ensures.roll c.in_default.ensures.redo
    (subst (λ o. IfNone o ((ns : List ℕ) → ¬ SaysEntry line (reordered ns))) c.in-Ok-None.field-0-is c.in-Ok-None.ensures.none)
    (subst (λ o. IfNone o ((s : Step) → ¬ SaysEntry line (took s))) c.in-Ok-None-read_taken.field-0-is c.in-Ok-None-read_taken.ensures.none)
