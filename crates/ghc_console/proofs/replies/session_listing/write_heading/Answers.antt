use Rattle.ghc_console.proofs.CitedWords.{lined, chronicle_heading}
use Rattle.ghc_console.proofs.replies.session_listing.write_heading.Goals as goal

pub returns-clause-told : goal.returns-clause-told
returns-clause-told g c = c.write_made.ensures.told (lined chronicle_heading) c.tell_heading-made.ensures
