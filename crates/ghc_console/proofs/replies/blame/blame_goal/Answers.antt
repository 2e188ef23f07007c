use Rattle.ghc_console.proofs.CitedWords.{subst, string_bytes, World}
use Rattle.ghc_console.specs.BlameReplies.{RepliesToBlameGoal}
use Rattle.ghc_console.proofs.StepReplies.{on_ok}
use Rattle.ghc_console.proofs.replies.blame.blame_goal.Goals as goal

pub returns-clause-text : goal.returns-clause-text
returns-clause-text c = on_ok c.told_goal.result c.told_goal.ensures (λ told.
    subst (λ (u : World). RepliesToBlameGoal u c.args.name c.args.answers.now (string_bytes c.told_goal.new.reply)) c.in_ok-settle.ensures.world told)
