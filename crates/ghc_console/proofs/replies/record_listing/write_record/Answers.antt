use Rattle.ghc_console.proofs.CitedWords.{form_text, lined}
use Rattle.ghc_console.proofs.replies.record_listing.write_record.Goals as goal

pub returns-clause-told : goal.returns-clause-told
returns-clause-told g c = c.write_made.ensures.told (lined (form_text c.args.form c.args.taken.now)) c.tell_record-made.ensures
