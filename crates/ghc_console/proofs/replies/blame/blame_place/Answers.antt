use Rattle.ghc_console.proofs.CitedWords.{subst, string_bytes, World}
use Rattle.ghc_console.specs.BlameReplies.{RepliesToBlamePlace}
use Rattle.ghc_console.proofs.StepReplies.{on_ok}
use Rattle.ghc_console.proofs.replies.blame.blame_place.Goals as goal

pub returns-clause-text : goal.returns-clause-text
returns-clause-text c = on_ok c.told_place.result c.told_place.ensures (λ told.
    subst (λ (u : World). RepliesToBlamePlace u c.args.word.now c.args.place.now c.args.answers.now (string_bytes c.told_place.new.reply)) c.in_ok-settle.ensures.world told)
