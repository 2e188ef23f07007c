use Rattle.ghc_console.proofs.CitedWords.{inr}
use Rattle.ghc_console.proofs.replies.goal_listing.write_goals.Goals as goal

pub returns-in-Ok-clause-told : goal.returns-in-Ok-clause-told
returns-in-Ok-clause-told g c = rw c.settle.ensures.world at c.write_tried.ensures.told

pub returns-in-Err-clause-told : goal.returns-in-Err-clause-told
returns-in-Err-clause-told g c = (c.as_bytes.result.now, inr c.as_bytes.ensures.value, c.write_all.ensures.bytes)
