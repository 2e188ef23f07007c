use Rattle.ghc_console.proofs.CitedWords.{◌≡◌, ◌++◌, List, ℕ, map, sym, subst, ap, ◌∙◌, string_bytes, VarName, binder_text, IsVariableNamed, RepliesToWho, tells_binders, names_nothing, text_lines}
use Rattle.ghc_console.proofs.CauseReplies.{lines_told}
use Rattle.ghc_console.proofs.StepReplies.{if_ok}
use Rattle.ghc_console.proofs.replies.causes.who.Goals as goal

pub returns-in_default : goal.returns-in_default
returns-in_default c = if_ok c.refused.result c.refused.ensures.text c.refused.ensures.memory (λ _ told kept.
    let w = c.args.core.now.world in
    subst (RepliesToWho w c.args.word.now) (sym told) (names_nothing (subst (λ (b : List ℕ). (x : VarName) → ¬ IsVariableNamed w b x) c.as_bytes.ensures.value c.in_default.ensures.none)))

pub returns : goal.returns
returns c = if_ok c.or_none.result c.or_none.ensures.none c.or_none.ensures.some (λ _ none some.
    let w = c.args.core.now.world in
    let word = c.args.word.now in
    let texts = map binder_text c.in_ok-told.told.items in
    let lines = string_bytes c.binder_lines.new.reply in
    let is : lines ≡ text_lines texts =
    c.in_ok-binder_lines.ensures ∙ ap (λ ts. string_bytes c.args.reply.now ++ text_lines (map binder_text ts)) c.as_slice.ensures.value ∙ ap (λ l. l ++ text_lines texts) c.requires in
    let named : IsVariableNamed w word c.in-Some.x = subst (λ (b : List ℕ). IsVariableNamed w b c.in-Some.x) c.as_bytes.ensures.value c.in-Some.ensures.found in
    subst (RepliesToWho w word) (sym (lines_told texts lines (string_bytes c.or_none.new.reply) is none some)) (tells_binders c.in-Some.x c.in_ok-told.told.items named c.in_ok-told.ensures))
