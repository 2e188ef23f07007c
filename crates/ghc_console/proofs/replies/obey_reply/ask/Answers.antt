use Rattle.ghc_console.proofs.CitedWords.{string_bytes, asks}
use Rattle.ghc_console.proofs.ObeyReplies.{ask_refused}
use Rattle.ghc_console.proofs.StepReplies.{if_ok, on_ok}
use Rattle.ghc_console.proofs.replies.obey_reply.ask.Goals as goal

pub returns-in-Ok-clause-text : goal.returns-in-Ok-clause-text
returns-in-Ok-clause-text c = on_ok c.obey.result c.obey.ensures.text (λ obeyed. asks c.in-Ok.goals c.in-Ok.ensures.0 obeyed)

pub returns-in-Err-clause-text : goal.returns-in-Err-clause-text
returns-in-Err-clause-text c = if_ok c.refused.result c.refused.ensures.text c.refused.ensures.memory (λ _ told kept.
    ask_refused c.args.core.now.world c.args.text.now (string_bytes c.refused.new.reply) c.in-Err.fault c.in-Err.ensures.1 told kept)
