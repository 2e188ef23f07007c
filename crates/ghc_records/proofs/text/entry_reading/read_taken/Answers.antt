use Rattle.ghc_records.proofs.Words.{IfNone, subst, Step, SaysStep, SaysAsking}
use Rattle.ghc_records.proofs.EntryLines.{no_step}
use Rattle.ghc_records.proofs.text.entry_reading.read_taken.Goals as goal

pub returns-in-Ok-None-read_asking-clause-none : goal.returns-in-Ok-None-read_asking-clause-none
returns-in-Ok-None-read_asking-clause-none c =
    let line = c.args.line.now in
    no_step line (subst (λ o. IfNone o ((s : Step) → ¬ SaysStep line s)) c.in-Ok-None.field-0-is c.in-Ok-None.ensures.none)
    (subst (λ o. IfNone o ((s : Step) → ¬ SaysAsking line s)) c.in-Ok-None-read_asking.field-0-is c.in-Ok-None-read_asking.ensures.none)
