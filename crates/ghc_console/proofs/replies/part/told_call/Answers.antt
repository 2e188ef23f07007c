use Rattle.ghc_console.proofs.CitedWords.{◌≡◌, ◌++◌, Err, inl, sym, subst, ap, ◌∙◌, string_bytes}
use Rattle.ghc_trace.specs.PartLines.{TellsCall}
use Rattle.ghc_console.proofs.PartReplying.{call_refused}
use Rattle.ghc_console.proofs.StepReplies.{if_ok}
use Rattle.ghc_console.proofs.replies.part.told_call.Goals as goal

pub returns-in-Ok : goal.returns-in-Ok
returns-in-Ok c =
    let text = c.in-Ok.ensures.text in
    let written : string_bytes c.push_call.new.out ≡ text.0 = text.2 ∙ ap (λ t. t ++ text.0) c.requires.empty in
    inl (subst (TellsCall c.args.core.now.world c.args.name c.args.goal.now) (sym written) text.1)

pub returns-in-Err : goal.returns-in-Err
returns-in-Err c = if_ok c.refused.result c.refused.ensures.text c.refused.ensures.memory (λ _ told kept.
    call_refused c.args.core.now.world c.args.name c.args.goal.now c.in-Err.fault (string_bytes c.refused.new.reply) c.in-Err.ensures.refused
    (λ q. c.push_call.ensures.too_long (c.in-Err.is ∙ ap Err q)) told kept)
