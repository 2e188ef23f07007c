use Rattle.ghc_records.proofs.Words.{◌≢◌, ◌++◌, All, ℕ, List, IfNone, ap, sym, ◌∙◌, subst, IsNamed, numbers_behind}
use Rattle.ghc_records.proofs.EntryLines.{no_order}
use Rattle.ghc_records.proofs.text.entry_reading.read_order.Goals as goal

pub returns-in_default-clause-none : goal.returns-in_default-clause-none
returns-in_default-clause-none c = λ ns says. c.in_default.ensures.none (numbers_behind ns) (says.0 ∙ ap (λ l. l ++ numbers_behind ns) (sym c.as_slice.ensures))

pub returns-in-Ok-None-clause-none : goal.returns-in-Ok-None-clause-none
returns-in-Ok-None-clause-none c =
    no_order c.args.line.now c.as_slice.result.now c.in-Some.bytes.now c.as_slice.ensures c.in-Some.ensures.some
    (subst (λ o. IfNone o ((ns : List ℕ) → All IsNamed ns → c.in-Some.bytes.now ≢ numbers_behind ns)) c.in-Ok-None.field-0-is c.in-Ok-None.ensures.none)
