use Rattle.ghc_console.proofs.CitedWords.{subst, string_bytes, World}
use Rattle.ghc_console.specs.PartReplies.{RepliesToPart}
use Rattle.ghc_console.proofs.StepReplies.{on_ok}
use Rattle.ghc_console.proofs.replies.part.part.Goals as goal

pub returns-clause-text : goal.returns-clause-text
returns-clause-text c = on_ok c.told_named.result c.told_named.ensures (λ told.
    subst (λ (u : World). RepliesToPart u c.args.name (string_bytes c.told_named.new.reply)) c.in_ok-settle.ensures.world told)
