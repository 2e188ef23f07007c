use Rattle.ghc_console.proofs.CitedWords.{◌≡◌, ◌++◌, Err, List, sym, subst, ap, ◌∙◌, string_bytes}
use Rattle.ghc_trace.specs.declared.judgements.Answer.{Answer}
use Rattle.ghc_trace.specs.BlameLines.{HasAnswerBeside, HasTooLongBlame, TellsBlameOf}
use Rattle.ghc_console.specs.BlameReplies.{RepliesOn, blames}
use Rattle.ghc_console.proofs.BlameReplying.{blame_refused}
use Rattle.ghc_console.proofs.StepReplies.{if_ok}
use Rattle.ghc_console.proofs.replies.blame.told_of.Goals as goal

pub returns-in-Ok : goal.returns-in-Ok
returns-in-Ok c =
    let w = c.args.core.now.world in
    let s = c.args.subject in
    let text = c.in-Ok.ensures.text in
    let written : string_bytes c.push_blame.new.out ≡ text.0 = text.2 ∙ ap (λ t. t ++ text.0) c.requires.empty in
    subst (RepliesOn w s c.args.answers.now) (sym written) (blames (subst (λ (l : List Answer). TellsBlameOf w s l text.0) c.as_slice.ensures text.1))

pub returns-in-Err : goal.returns-in-Err
returns-in-Err c = if_ok c.refused.result c.refused.ensures.text c.refused.ensures.memory (λ _ told kept.
    let w = c.args.core.now.world in
    let s = c.args.subject in
    let same = c.as_slice.ensures in
    blame_refused w s c.args.answers.now c.in-Err.fault (string_bytes c.refused.new.reply) c.in-Err.ensures.refused
    (λ q. c.push_blame.ensures.no_place (c.in-Err.is ∙ ap Err q))
    (λ q. subst (λ (l : List Answer). HasAnswerBeside w s l) same (c.push_blame.ensures.beside (c.in-Err.is ∙ ap Err q)))
    (λ q. subst (λ (l : List Answer). HasTooLongBlame w s l) same (c.push_blame.ensures.too_long (c.in-Err.is ∙ ap Err q)))
    told kept)
