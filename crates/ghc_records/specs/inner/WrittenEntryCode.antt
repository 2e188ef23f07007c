-- Entries as a history has them, in the code.
use Rattle.ghc_records.specs.Journal as journal
use Rattle.ghc_records.specs.declared.written_entry.WrittenEntry.{WrittenEntry}
use Rattle.ghc_records.specs.declared.written_entry.WrittenEntry.TheVariants.{Took, Undid, Rolled, Redid, Reordered}

-- the entry that is written so
abbrev pub said_by : WrittenEntry → journal.Entry
said_by (Took s) = journal.took s
said_by (Undid n) = journal.undid n
said_by (Rolled n) = journal.rolled n
said_by (Redid n) = journal.redid n
said_by (Reordered order) = journal.reordered order.items
