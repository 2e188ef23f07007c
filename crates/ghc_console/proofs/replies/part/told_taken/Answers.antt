use Rattle.ghc_console.proofs.CitedWords.{◌≡◌, None, Some, inl, inr, sym, subst, ap, ◌∙◌, List, Record, Goal}
use Rattle.std.specs.Option.{option_copied}
use Rattle.ghc_term.specs.Lists.{In}
use Rattle.ghc_depend.proofs.Placing.{place_of}
use Rattle.ghc_depend.proofs.Results.{taken_at}
use Rattle.ghc_console.specs.PartReplies.{IsNamedSo, RepliesToPart, part_of_no_goal}
use Rattle.ghc_console.proofs.PartReplying.{goal_lent}
use Rattle.ghc_console.proofs.StepReplies.{if_ok}
use Rattle.ghc_console.proofs.replies.part.told_taken.Goals as goal

pub returns-in_default : goal.returns-in_default
returns-in_default c = if_ok c.refused.result c.refused.ensures.text c.refused.ensures.memory (λ _ told kept.
    let w = c.args.core.now.world in
    let g = c.args.name in
    let nobody : (b : Goal) → ¬ IsNamedSo w g b = λ b named. elim named [
      | inl there ↦ let clash : None ≡ Some b = sym c.requires.gone ∙ there in cc
      | inr r ↦ c.in_default.ensures.none r.0 (subst (λ (l : List Record). In r.0 l) (sym c.records.ensures) r.1) r.2
    ] in
    subst (RepliesToPart w g) (sym told) (part_of_no_goal nobody))

pub unwrap-goal-requires : goal.unwrap-goal-requires
unwrap-goal-requires c =
    let w = c.args.core.now.world in
    let step = c.in-Some.step.now in
    let found = c.in-Some.ensures.found in
    let there = subst (λ (l : List Record). In step l) c.records.ensures found.0 in
    let p = place_of w.opening.program w.opening.query w.kept w.state c.stands.ensures.replay step there in
    let taken = taken_at w.opening.program p.state step p.fires c.args.name found.1 in
    goal_lent c.consumed.result taken.0 (c.consumed.ensures ∙ taken.2)

pub told_goal-requires-clause-taken : goal.told_goal-requires-clause-taken
told_goal-requires-clause-taken c =
    let step = c.in-Some.step.now in
    let found = c.in-Some.ensures.found in
    (subst (λ (l : List Record). In step l) c.records.ensures found.0, found.1, sym c.consumed.ensures ∙ ap option_copied c.unwrap-goal.ensures)
