use Rattle.ghc_console.proofs.CitedWords.{subst, string_bytes, World}
use Rattle.ghc_console.specs.BlameReplies.{RepliesToBlame}
use Rattle.ghc_console.proofs.StepReplies.{on_ok}
use Rattle.ghc_console.proofs.replies.blame.blame.Goals as goal

pub returns-clause-text : goal.returns-clause-text
returns-clause-text c = on_ok c.told_value.result c.told_value.ensures (λ told.
    subst (λ (u : World). RepliesToBlame u c.args.word.now c.args.answers.now (string_bytes c.told_value.new.reply)) c.in_ok-settle.ensures.world told)
