use Rattle.ghc_console.proofs.CitedWords.{◌≡◌, ◌++◌, ◌∙◌, List, sym, ap, subst, string_bytes, In, Record, IsNotKept, record_lines}
use Rattle.ghc_depend.specs.Depend.{AreConsequencesOf}
use Rattle.ghc_console.specs.Looks.{RepliesToEffects, effects_of_no_step}
use Rattle.ghc_console.specs.TextLines.{text_or_none}
use Rattle.ghc_console.proofs.EffectReplies.{effects_told, found_kept, number_kept}
use Rattle.ghc_console.proofs.LookReplies.{told_or_none}
use Rattle.ghc_console.proofs.StepReplies.{if_ok}
use Rattle.ghc_console.proofs.replies.effects.effects.Goals as goal

pub returns-in_default : goal.returns-in_default
returns-in_default c = if_ok c.refused.result c.refused.ensures.text c.refused.ensures.memory (λ _ told kept.
    let w = c.args.core.now.world in
    subst (RepliesToEffects w c.args.number) (sym told) (effects_of_no_step (subst (λ (l : List Record). IsNotKept l c.args.number) c.records-records.ensures c.in_default.ensures.none)))

pub step_lines-requires : goal.step_lines-requires
step_lines-requires c =
    let found = c.in_ok-found.ensures.found in
    λ k i. number_kept c.records-records.result.now.held c.args.number found.0 found.1 k (subst (In k) (c.as_slice.ensures.value ∙ sym found.2) i)

pub returns : goal.returns
returns c = if_ok c.or_none.result c.or_none.ensures.none c.or_none.ensures.some (λ _ none some.
    let w = c.args.core.now.world in
    let n = c.args.number in
    let held = c.records-records.result.now.held in
    let found = c.in_ok-found.ensures.found in
    let lines = string_bytes c.step_lines.new.reply in
    let text = string_bytes c.or_none.new.reply in
    let is : lines ≡ record_lines found.0 =
    c.in_ok-step_lines.ensures found.0 (found_kept held n found.0 found.1) (found.2 ∙ sym c.as_slice.ensures.value) ∙ ap (λ l. l ++ record_lines found.0) c.requires in
    let kept : In c.in-Some._step.now w.kept = subst (In c.in-Some._step.now) c.records-records.ensures c.in-Some.ensures.found.0 in
    let are : AreConsequencesOf w.kept n found.0 = subst (λ (rs : List Record). AreConsequencesOf rs n found.0) c.records-records.ensures found.1 in
    effects_told w n c.in-Some._step.now found.0 text kept c.in-Some.ensures.found.1 are (told_or_none lines text none some ∙ ap text_or_none is))
