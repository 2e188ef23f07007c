use Rattle.ghc_console.proofs.CitedWords.{◌≡◌, ◌++◌, ◌∙◌, refl, sym, ap, subst, inl, inr, map, string_bytes, Some, None, AreReasonsTold, text_lines}
use Rattle.std.specs.Option.{option_copied}
use Rattle.ghc_console.specs.Looks.{cause_text}
use Rattle.ghc_console.proofs.StepReplies.{on_ok}
use Rattle.ghc_console.proofs.replies.all_causes.causes_at.Goals as goal

pub returns-in_default : goal.returns-in_default
returns-in_default c = inr ((λ r stands. let clash : None ≡ Some r = ap option_copied (sym c.in_default.is) ∙ (c.at.ensures r).1 stands in cc), refl)

pub returns-in-Ok : goal.returns-in-Ok
returns-in-Ok c = on_ok c.cause_lines.result c.cause_lines.ensures (λ told.
    let r = c.in-Some.step.now in
    let held = c.args.records.now.held in
    let reasons = c.in-Ok.reasons.items in
    let number : c.number-number.result ≡ r.number = c.number-number.ensures in
    inl (
      r,
      text_lines (map (cause_text r.number) reasons),
      (c.at.ensures r).0 (ap option_copied c.in-Some.is),
      (reasons, subst (λ n. AreReasonsTold held n reasons) number c.in-Ok.ensures.found, refl),
      told ∙ ap (λ rs. string_bytes c.args.reply.now ++ text_lines (map (cause_text c.number-number.result) rs)) c.as_slice.ensures.value
          ∙ ap (λ n. string_bytes c.args.reply.now ++ text_lines (map (cause_text n) reasons)) number,
    ))
