use Rattle.ghc_records.specs.inner.EntryCode.{entry_of}
use Rattle.ghc_console.proofs.CitedWords.{entry_text, lined}
use Rattle.ghc_console.proofs.replies.session_listing.write_entry_line.Goals as goal

pub returns-clause-told : goal.returns-clause-told
returns-clause-told g c = c.write_made.ensures.told (lined (entry_text (entry_of c.args.entry.now))) c.tell_entry-made.ensures
