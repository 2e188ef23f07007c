use Rattle.ghc_console.proofs.CitedWords.{◌≡◌, ◌++◌, ◌∙◌, ap, codes, lined, subst, sym, string_bytes, List, ℕ, RepliesToShow, shows}
use Rattle.ghc_console.proofs.FoundReplies.{shown_refused}
use Rattle.ghc_console.proofs.StepReplies.{if_ok}
use Rattle.ghc_console.proofs.replies.show.Goals as goal

pub returns-in-Ok : goal.returns-in-Ok
returns-in-Ok c = if_ok c.shown.result c.shown.ensures c.shown.ensures (λ _ told _.
    let w = c.args.core.now.world in
    let same : string_bytes c.shown.new.reply ≡ lined (c.args.word.now ++ (codes " = " ++ string_bytes c.in-Ok.term)) =
    told ∙ ap (λ (l : List ℕ). lined (c.args.word.now ++ (codes " = " ++ l))) c.as_str.ensures.value in
    subst (RepliesToShow w c.args.word.now) (sym same) (shows c.in-Ok._x (string_bytes c.in-Ok.term) c.in-Ok.ensures.named c.in-Ok.ensures.text c.in-Ok.ensures.short))

pub returns-in-Err : goal.returns-in-Err
returns-in-Err c = if_ok c.refused.result c.refused.ensures.text c.refused.ensures.memory (λ _ told kept.
    shown_refused c.args.core.now.world c.args.word.now c.in-Err.fault (string_bytes c.refused.new.reply) c.in-Err.ensures.refused told kept)
