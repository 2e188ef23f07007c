use Rattle.ghc_console.proofs.CitedWords.{string_bytes}
use Rattle.ghc_console.proofs.ListedGoals.{goal_wrote}
use Rattle.ghc_console.proofs.replies.goal_listing.write_goal.Goals as goal

pub returns-clause-told : goal.returns-clause-told
returns-clause-told g c =
    goal_wrote c.args.core.now.world c.tell_goal-made.result (c.args.name, c.args.goal.now) (string_bytes c.tell_goal-made.new.line) _ _ _ c.tell_goal-made.ensures.text c.tell_goal-made.ensures.short c.write_made.ensures.told
