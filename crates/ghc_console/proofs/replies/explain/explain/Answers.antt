use Rattle.ghc_console.proofs.CitedWords.{subst, string_bytes, World}
use Rattle.ghc_console.specs.Explaining.{RepliesToExplain}
use Rattle.ghc_console.proofs.FoundReplies.{explained_refused}
use Rattle.ghc_console.proofs.StepReplies.{if_ok}
use Rattle.ghc_console.proofs.replies.explain.explain.Goals as goal

pub returns-in-Err-clause-text : goal.returns-in-Err-clause-text
returns-in-Err-clause-text c = if_ok c.refused.result c.refused.ensures.text c.refused.ensures.memory (λ _ told kept.
    subst (λ (u : World). RepliesToExplain u c.args.word.now (string_bytes c.refused.new.reply)) c.in_ok-settle.ensures.world
    (explained_refused c.settle.new.core.world c.args.word.now c.in-Err.fault (string_bytes c.refused.new.reply) c.in-Err.ensures.refused told kept))
