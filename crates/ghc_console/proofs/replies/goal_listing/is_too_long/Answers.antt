use Rattle.ghc_console.proofs.CitedWords.{ap, ◌∙◌, Err}
use Rattle.ghc_console.proofs.replies.goal_listing.is_too_long.Goals as goal

pub returns : goal.returns
returns c long = let past = c.print_goal.ensures.too_long (c.in-Err.is ∙ ap Err (c.is_of_print.ensures.0 long)) in (past.0, past.1.0, past.1.1)
