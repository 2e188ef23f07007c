use Rattle.std.specs.Fmt.{decimal}
use Rattle.ghc_console.proofs.CitedWords.{◌++◌, lined}
use Rattle.ghc_console.proofs.replies.session_listing.write_count.Goals as goal

pub returns-clause-told : goal.returns-clause-told
returns-clause-told g c = c.write_made.ensures.told (lined (c.args.word.now ++ decimal c.args.count)) c.tell_count-made.ensures
