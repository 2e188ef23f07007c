use Rattle.ghc_console.proofs.CitedWords.{◌≡◌, ◌++◌, List, inl, inr, sym, subst, ap, ◌∙◌, map, string_bytes, Record, reason_text, AreReasonsTold, RepliesToWhy, tells_reasons, text_lines}
use Rattle.ghc_console.proofs.CauseReplies.{lines_told, why_refused}
use Rattle.ghc_console.proofs.StepReplies.{if_ok}
use Rattle.ghc_console.proofs.replies.causes.why.Goals as goal

pub returns-in_ok-reason_lines-in-Ok : goal.returns-in_ok-reason_lines-in-Ok
returns-in_ok-reason_lines-in-Ok c = if_ok c.or_none.result c.or_none.ensures.none c.or_none.ensures.some (λ _ none some.
    let w = c.args.core.now.world in
    let n = c.args.number in
    let reasons = c.in-Ok.reasons.items in
    let texts = map reason_text reasons in
    let lines = string_bytes c.reason_lines.new.reply in
    let is : lines ≡ text_lines texts =
    c.in_ok-reason_lines-in-Ok.ensures ∙ ap (λ rs. string_bytes c.args.reply.now ++ text_lines (map reason_text rs)) c.as_slice.ensures.value ∙ ap (λ l. l ++ text_lines texts) c.requires in
    let found : AreReasonsTold w.kept n reasons = subst (λ (kept : List Record). AreReasonsTold kept n reasons) c.records.ensures c.in-Ok.ensures.found in
    subst (RepliesToWhy w n) (sym (lines_told texts lines (string_bytes c.or_none.new.reply) is none some)) (tells_reasons reasons found))

pub returns-in-Err : goal.returns-in-Err
returns-in-Err c = if_ok c.refused.result c.refused.ensures.text c.refused.ensures.memory (λ _ told kept.
    let w = c.args.core.now.world in
    why_refused w c.args.number c.in-Err.fault (string_bytes c.refused.new.reply) (elim c.in-Err.ensures.fault [
      | inl m ↦ inl m
      | inr q ↦ inr (q.0, rw c.records.ensures at q.1)
    ]) told kept)
