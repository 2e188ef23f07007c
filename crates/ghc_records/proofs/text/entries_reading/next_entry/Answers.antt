use Rattle.ghc_records.proofs.Words.{IfSome, subst, IsInTurn, SaysEntry, said_by}
use Rattle.ghc_records.proofs.EntryLines.{not_in_turn}
use Rattle.ghc_records.proofs.SectionLemmas.{none_said}
use Rattle.ghc_records.proofs.text.entries_reading.next_entry.Goals as goal

pub returns-else-is_in_turn-clause-none : goal.returns-else-is_in_turn-clause-none
returns-else-is_in_turn-clause-none c =
    not_in_turn c.args.text.now c.in-Some.line.now c.in-Some.rest.now c.args.next (said_by c.in-Ok-Some.entry) c.is_in_turn.result c.in-Some.ensures.found
    (subst (λ o. IfSome o (λ e. SaysEntry c.in-Some.line.now (said_by e))) c.in-Ok-Some.field-0-is c.in-Ok-Some.ensures.some) c.is_in_turn.ensures.1 c.if-is_in_turn.false

pub returns-in-Ok-None-clause-none : goal.returns-in-Ok-None-clause-none
returns-in-Ok-None-clause-none c =
    none_said SaysEntry (IsInTurn c.args.next) c.args.text.now c.in-Some.line.now c.in-Some.rest.now c.in-Some.ensures.found
    (rw c.in-Ok-None.field-0-is at c.in-Ok-None.ensures.none)
