-- Entries as the code has them.
use Rattle.ghc_records.specs.Journal as journal
use Rattle.ghc_records.specs.declared.entry.Entry.{Entry}
use Rattle.ghc_records.specs.declared.entry.Entry.TheVariants.{Took, Undid, Rolled, Redid, Reordered}

-- the entry that is written; where a step was taken, its record is at hand, and the step of it is what counts
abbrev pub entry_of : Entry → journal.Entry
entry_of (Took r) = journal.took (journal.step_of r)
entry_of (Undid n) = journal.undid n
entry_of (Rolled n) = journal.rolled n
entry_of (Redid n) = journal.redid n
entry_of (Reordered order) = journal.reordered order.value.items
