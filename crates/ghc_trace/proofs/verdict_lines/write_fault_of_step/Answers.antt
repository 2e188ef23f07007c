use Rattle.std.specs.Prelude.{IfSome}
use Rattle.ghc_trace.proofs.Words.{◌≡◌, ◌++◌, Bor, Option, List, codes, sym, ap, ◌∙◌, subst, inr, append_assoc, string_bytes, In, Record, Goal, record_once, StoreValue}
use Rattle.ghc_records.specs.Journal.{step_of}
use Rattle.ghc_records.specs.StepText.{step_text}
use Rattle.ghc_trace.specs.BlameLines.{AreMadeGoals, only}
use Rattle.ghc_trace.specs.GoalLines.{IsTooLong}
use Rattle.ghc_trace.proofs.Explained.{some_there}
use Rattle.ghc_trace.proofs.verdict_lines.write_fault_of_step.Goals as goal

pub unwrap-step-requires : goal.unwrap-step-requires
unwrap-step-requires c =
    let kept = c.requires in
    some_there c.get.result _ c.get.ensures.none (λ none. none kept.0 (subst (λ (l : List Record). In kept.0 l) (sym c.records-records.ensures) kept.1.0) kept.1.1)

pub returns-in-Err-clause-too_long : goal.returns-in-Err-clause-too_long
returns-in-Err-clause-too_long c e rs t r about kept =
    let held = c.records-records.result.now.held in
    let step = c.unwrap-step.result.now in
    let found = subst (λ (o : Option (Bor Record)). IfSome o (λ z. In z.now held × (z.now.number ≡ c.args.number))) c.unwrap-step.ensures c.get.ensures.found in
    let one = record_once held step r c.len-count.ensures.distinct found.0 (subst (λ (l : List Record). In r l) (sym c.records-records.ensures) (about.world.steps.within r kept.0)) (found.1 ∙ sym kept.1) in
    let same : c.makes.result.now ≡ r.effect.makes = c.makes.ensures ∙ ap (λ z. z.makes) c.effect-2.ensures ∙ ap (λ (z : Record). z.effect.makes) one in
    let long = c.write_all_made.ensures.too_long (c.in-Err.is ∙ e) in
    (long.0, subst (λ (l : List Goal). In long.0 l) same long.1, subst (λ (s : StoreValue). IsTooLong s long.0) (sym about.world.left) long.2)

pub returns-clause-text : goal.returns-clause-text
returns-clause-text c rs t r about kept =
    let d = c.args.told.now in
    let w = d.core.now.world in
    let old = string_bytes c.args.out.now in
    let held = c.records-records.result.now.held in
    let step = c.unwrap-step.result.now in
    let found = subst (λ (o : Option (Bor Record)). IfSome o (λ z. In z.now held × (z.now.number ≡ c.args.number))) c.unwrap-step.ensures c.get.ensures.found in
    let one = record_once held step r c.len-count.ensures.distinct found.0 (subst (λ (l : List Record). In r l) (sym c.records-records.ensures) (about.world.steps.within r kept.0)) (found.1 ∙ sym kept.1) in
    let same : c.makes.result.now ≡ r.effect.makes = c.makes.ensures ∙ ap (λ z. z.makes) c.effect-2.ensures ∙ ap (λ (z : Record). z.effect.makes) one in
    let m = c.in-Ok.ensures.text rs t about (inr (r, kept, sym same)) in
    let made = subst (λ (l : List Goal). AreMadeGoals (only w rs t) d.target c.args.number l m.0) same m.1 in
    let text : step_text (step_of step) ≡ step_text (step_of r) = ap (λ (z : Record). step_text (step_of z)) one in
    let all : string_bytes c.push_str-2.new.self ≡ (((old ++ m.0) ++ codes "fault ") ++ step_text (step_of r)) ++ codes "\n" =
    c.in_ok-push_str-2.ensures.bytes
    ∙ ap (λ l. l ++ codes "\n") (c.in_ok-push_step.ensures ∙ ap (λ l. string_bytes c.push_str.new.self ++ l) text
    ∙ ap (λ l. l ++ step_text (step_of r)) (c.in_ok-push_str.ensures.bytes ∙ ap (λ l. l ++ codes "fault ") m.2)) in (
      m.0,
      subst (λ k. AreMadeGoals (only w rs t) d.target k r.effect.makes m.0) (sym kept.1) made,
      all ∙ append_assoc ((old ++ m.0) ++ codes "fault ") (step_text (step_of r)) (codes "\n") ∙ append_assoc (old ++ m.0) (codes "fault ") (step_text (step_of r) ++ codes "\n")
          ∙ append_assoc old m.0 (codes "fault " ++ (step_text (step_of r) ++ codes "\n")),
    )
