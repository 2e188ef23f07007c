use Rattle.ghc_console.proofs.CitedWords.{◌∙◌, ap, inr}
use Rattle.std.specs.FinMap as finite
use Rattle.ghc_console.proofs.replies.goal_listing.write_tried.Goals as goal

pub write_ordered-requires-clause-ordered : goal.write_ordered-requires-clause-ordered
write_ordered-requires-clause-ordered g c = c.in-Ok.ensures ∙ ap finite.entries c.goals.ensures

pub returns-in-Err-clause-told : goal.returns-in-Err-clause-told
returns-in-Err-clause-told g c = (c.as_bytes.result.now, inr c.as_bytes.ensures.value, c.write_all.ensures.bytes)
