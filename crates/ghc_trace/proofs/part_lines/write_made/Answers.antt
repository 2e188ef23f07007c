use Rattle.ghc_trace.proofs.Words.{◌≡◌, ◌+◌, ◌++◌, List, Some, sym, subst, ap, ◌∙◌, append_assoc, codes, string_bytes, in_at, Goal, GoalName, length, ◌<◌}
use Rattle.std.specs.Prelude.{slice_get}
use Rattle.std.specs.FinMap as finite
use Rattle.ghc_term.specs.GoalText.{goal_text}
use Rattle.ghc_records.specs.StepText.{goal_name_text}
use Rattle.ghc_trace.specs.GoalLines.{IsTooLong}
use Rattle.ghc_trace.specs.PartLines.{IsShown, TellsMade, a_stream, assignment, equation, made_line}
use Rattle.ghc_trace.specs.inner.PartsCode.{fate_word}
use Rattle.ghc_trace.proofs.CausePlaces.{on_ok}
use Rattle.ghc_trace.proofs.PartMade.{found_at, made_told}
use Rattle.ghc_trace.proofs.part_lines.write_made.Goals as goal

pub unwrap-goal-requires : goal.unwrap-goal-requires
unwrap-goal-requires c =
    let is : c.makes.result.now ≡ c.args.step.now.effect.makes = c.makes.ensures ∙ ap (λ e. e.makes) c.effect-2.ensures in
    c.get.ensures.lookup.2 (subst (λ (l : List Goal). c.args.index < length l) (sym is) c.requires.made)

pub returns-in-Call-clause-text : goal.returns-in-Call-clause-text
returns-in-Call-clause-text c = on_ok c.write_fate.result c.write_fate.ensures.text (λ (text, shown, eq).
    let w = c.args.core.now.world in
    let r = c.args.step.now in
    let i = c.args.index in
    let b = c.unwrap-goal.result.now in
    let is : c.makes.result.now ≡ r.effect.makes = c.makes.ensures ∙ ap (λ e. e.makes) c.effect-2.ensures in
    let at : slice_get r.effect.makes i ≡ Some b = found_at r.effect.makes c.makes.result.now i c.get.result c.unwrap-goal.result is c.requires.made c.unwrap-goal.ensures c.get.ensures.lookup.1 in
    let old = string_bytes c.args.out.now in
    let name : GoalName = record { step = r.number; place = i + 1 } in
    let fate = fate_word (finite.get w.state.goals name) ++ (text ++ codes "\n") in
    let line = goal_name_text name ++ fate in
    let mid : string_bytes c.push_goal_name.new.out ≡ old ++ goal_name_text name = c.in_ok-push_goal_name.ensures ∙ ap (λ k. old ++ goal_name_text (record { step = k; place = i + 1 })) c.number.ensures in
    let new : string_bytes c.write_fate.new.out ≡ string_bytes c.push_goal_name.new.out ++ fate =
    subst (λ k. string_bytes c.write_fate.new.out ≡ string_bytes c.push_goal_name.new.out ++ (fate_word (finite.get w.state.goals (record { step = k; place = i + 1 })) ++ (text ++ codes "\n"))) c.number.ensures eq in
    let told = made_told w c.stands.ensures.replay r c.requires.kept i c.requires.made c.in-Call.field-0.now c.in-Call.field-1.now (at ∙ ap Some (sym c.in-Call.ensures)) text
    (subst (λ z. IsShown w.state.store z text) (sym c.in-Call.ensures) shown) in
    (b, line, at, subst (λ z. TellsMade w name z line) c.in-Call.ensures told, new ∙ ap (λ m. m ++ fate) mid ∙ append_assoc old (goal_name_text name) fate))

pub returns-in-Call-clause-too_long : goal.returns-in-Call-clause-too_long
returns-in-Call-clause-too_long c e =
    let w = c.args.core.now.world in
    let makes = c.args.step.now.effect.makes in
    let b = c.unwrap-goal.result.now in
    let is : c.makes.result.now ≡ makes = c.makes.ensures ∙ ap (λ z. z.makes) c.effect-2.ensures in
    let at : slice_get makes c.args.index ≡ Some b = found_at makes c.makes.result.now c.args.index c.get.result c.unwrap-goal.result is c.requires.made c.unwrap-goal.ensures c.get.ensures.lookup.1 in
    let long = c.write_fate.ensures.too_long e in
    (c.in-Call.field-0.now, c.in-Call.field-1.now, in_at makes c.args.index _ (at ∙ ap Some (sym c.in-Call.ensures)), subst (λ z. IsTooLong w.state.store z) (sym c.in-Call.ensures) long)

pub returns-in_ok-write_as_made-in-Unify-clause-text : goal.returns-in_ok-write_as_made-in-Unify-clause-text
returns-in_ok-write_as_made-in-Unify-clause-text c =
    let w = c.args.core.now.world in
    let r = c.args.step.now in
    let i = c.args.index in
    let b = c.unwrap-goal.result.now in
    let is : c.makes.result.now ≡ r.effect.makes = c.makes.ensures ∙ ap (λ e. e.makes) c.effect-2.ensures in
    let at : slice_get r.effect.makes i ≡ Some b = found_at r.effect.makes c.makes.result.now i c.get.result c.unwrap-goal.result is c.requires.made c.unwrap-goal.ensures c.get.ensures.lookup.1 in
    let old = string_bytes c.args.out.now in
    let name : GoalName = record { step = r.number; place = i + 1 } in
    let text = codes " " ++ (goal_text b ++ codes "\n") in
    let mid : string_bytes c.push_goal_name.new.out ≡ old ++ goal_name_text name = c.in_ok-push_goal_name.ensures ∙ ap (λ k. old ++ goal_name_text (record { step = k; place = i + 1 })) c.number.ensures in (
      b,
      made_line name (codes " ") (goal_text b),
      at,
      subst (λ z. TellsMade w name z (made_line name (codes " ") (goal_text z))) c.in-Unify.ensures equation,
      c.in_ok-write_as_made-in-Unify.ensures.text ∙ ap (λ m. m ++ text) mid ∙ append_assoc old (goal_name_text name) text,
    )

pub returns-in_ok-write_as_made-in-Assign-clause-text : goal.returns-in_ok-write_as_made-in-Assign-clause-text
returns-in_ok-write_as_made-in-Assign-clause-text c =
    let w = c.args.core.now.world in
    let r = c.args.step.now in
    let i = c.args.index in
    let b = c.unwrap-goal.result.now in
    let is : c.makes.result.now ≡ r.effect.makes = c.makes.ensures ∙ ap (λ e. e.makes) c.effect-2.ensures in
    let at : slice_get r.effect.makes i ≡ Some b = found_at r.effect.makes c.makes.result.now i c.get.result c.unwrap-goal.result is c.requires.made c.unwrap-goal.ensures c.get.ensures.lookup.1 in
    let old = string_bytes c.args.out.now in
    let name : GoalName = record { step = r.number; place = i + 1 } in
    let text = codes " " ++ (goal_text b ++ codes "\n") in
    let mid : string_bytes c.push_goal_name.new.out ≡ old ++ goal_name_text name = c.in_ok-push_goal_name.ensures ∙ ap (λ k. old ++ goal_name_text (record { step = k; place = i + 1 })) c.number.ensures in (
      b,
      made_line name (codes " ") (goal_text b),
      at,
      subst (λ z. TellsMade w name z (made_line name (codes " ") (goal_text z))) c.in-Assign.ensures assignment,
      c.in_ok-write_as_made-in-Assign.ensures.text ∙ ap (λ m. m ++ text) mid ∙ append_assoc old (goal_name_text name) text,
    )

pub returns-in_ok-write_as_made-in-Stream-clause-text : goal.returns-in_ok-write_as_made-in-Stream-clause-text
returns-in_ok-write_as_made-in-Stream-clause-text c =
    let w = c.args.core.now.world in
    let r = c.args.step.now in
    let i = c.args.index in
    let b = c.unwrap-goal.result.now in
    let is : c.makes.result.now ≡ r.effect.makes = c.makes.ensures ∙ ap (λ e. e.makes) c.effect-2.ensures in
    let at : slice_get r.effect.makes i ≡ Some b = found_at r.effect.makes c.makes.result.now i c.get.result c.unwrap-goal.result is c.requires.made c.unwrap-goal.ensures c.get.ensures.lookup.1 in
    let old = string_bytes c.args.out.now in
    let name : GoalName = record { step = r.number; place = i + 1 } in
    let text = codes " " ++ (goal_text b ++ codes "\n") in
    let mid : string_bytes c.push_goal_name.new.out ≡ old ++ goal_name_text name = c.in_ok-push_goal_name.ensures ∙ ap (λ k. old ++ goal_name_text (record { step = k; place = i + 1 })) c.number.ensures in (
      b,
      made_line name (codes " ") (goal_text b),
      at,
      subst (λ z. TellsMade w name z (made_line name (codes " ") (goal_text z))) c.in-Stream.ensures a_stream,
      c.in_ok-write_as_made-in-Stream.ensures.text ∙ ap (λ m. m ++ text) mid ∙ append_assoc old (goal_name_text name) text,
    )
