use Rattle.ghc_records.proofs.Words.{◌+◌, map, refl, pieces_of, AreInTurn, entry_limit, SaysEntry, entries_line, said_by}
use Rattle.ghc_records.proofs.SectionParts.{section_rest, section_told, wrong_first, wrong_line}
use Rattle.ghc_records.proofs.text.chronicle_reading.entries_of.Goals as goal

pub returns-in_default-clause-fault : goal.returns-in_default-clause-fault
returns-in_default-clause-fault c =
    wrong_first SaysEntry (AreInTurn c.args.next) entries_line entry_limit (pieces_of c.args.text.now) c.args.line
    (rw c.as_slice.ensures at c.in_default.ensures.none)

pub returns-in-Ok-clause-told : goal.returns-in-Ok-clause-told
returns-in-Ok-clause-told c =
    let a = c.in-Some in
    section_told SaysEntry (AreInTurn c.args.next) entries_line entry_limit (pieces_of c.args.text.now) a.count a.told.now
    (rw c.as_slice.ensures at a.ensures.some) a.ensures.few (map said_by c.in-Ok.entries.items) c.in-Ok.ensures.told c.in-Ok.ensures.all

pub returns-in-Ok-clause-rest : goal.returns-in-Ok-clause-rest
returns-in-Ok-clause-rest c =
    let a = c.in-Some in
    section_rest SaysEntry (AreInTurn c.args.next) entries_line entry_limit (pieces_of c.args.text.now) a.count a.told.now
    (rw c.as_slice.ensures at a.ensures.some) a.ensures.few (map said_by c.in-Ok.entries.items) c.in-Ok.rest.now c.in-Ok.ensures.all c.in-Ok.ensures.rest

pub returns-in-Err-clause-fault : goal.returns-in-Err-clause-fault
returns-in-Err-clause-fault c =
    let a = c.in-Some in
    wrong_line SaysEntry (AreInTurn c.args.next) entries_line entry_limit (pieces_of c.args.text.now) a.count a.told.now
    (rw c.as_slice.ensures at a.ensures.some) a.ensures.few c.args.line (c.args.line + 1) c.in-Err.fault refl c.in-Err.ensures.fault
