use Rattle.std.specs.Prelude.{IfSome}
use Rattle.ghc_trace.proofs.Words.{◌≡◌, [], Bor, Option, List, true, false, None, refl, is_some, sym, ap, ◌∙◌, subst, inl, inr, append-nil, string_bytes, In, Record, Goal, record_once}
use Rattle.ghc_trace.specs.BlameLines.{AreMadeGoals, only}
use Rattle.ghc_trace.proofs.CausePlaces.{on_ok}
use Rattle.ghc_trace.proofs.Explained.{some_there}
use Rattle.ghc_trace.proofs.PartFinding.{no_value}
use Rattle.ghc_trace.proofs.verdict_lines.write_asked.Goals as goal

pub unwrap-step-requires : goal.unwrap-step-requires
unwrap-step-requires c =
    let kept = c.requires in
    some_there c.get.result _ c.get.ensures.none (λ none. none kept.0 (subst (λ (l : List Record). In kept.0 l) (sym c.records-records.ensures) kept.1.0) kept.1.1)

pub returns-then-is_some-clause-text : goal.returns-then-is_some-clause-text
returns-then-is_some-clause-text c rs t r about kept =
    let held = c.records-records.result.now.held in
    let step = c.unwrap-step.result.now in
    let found = subst (λ (o : Option (Bor Record)). IfSome o (λ z. In z.now held × (z.now.number ≡ c.args.number))) c.unwrap-step.ensures c.get.ensures.found in
    let one = record_once held step r c.len-count.ensures.distinct found.0 (subst (λ (l : List Record). In r l) (sym c.records-records.ensures) (about.world.steps.within r kept.0)) (found.1 ∙ sym kept.1) in
    let some : is_some step.goal ≡ true = ap is_some (sym c.goal.ensures) ∙ sym c.is_some.ensures ∙ c.if-is_some.true in (
      [],
      inr ((λ none. let clash : false ≡ true = sym (ap is_some (ap (λ (z : Record). z.goal) one ∙ none)) ∙ some in cc), refl),
      sym (append-nil (string_bytes c.args.out.now)),
    )

pub returns-clause-text : goal.returns-clause-text
returns-clause-text c = on_ok c.write_all_made.result c.write_all_made.ensures.text (λ tells rs t r about kept.
    let d = c.args.told.now in
    let w = d.core.now.world in
    let held = c.records-records.result.now.held in
    let step = c.unwrap-step.result.now in
    let found = subst (λ (o : Option (Bor Record)). IfSome o (λ z. In z.now held × (z.now.number ≡ c.args.number))) c.unwrap-step.ensures c.get.ensures.found in
    let one = record_once held step r c.len-count.ensures.distinct found.0 (subst (λ (l : List Record). In r l) (sym c.records-records.ensures) (about.world.steps.within r kept.0)) (found.1 ∙ sym kept.1) in
    let same : c.makes.result.now ≡ r.effect.makes = c.makes.ensures ∙ ap (λ z. z.makes) c.effect-2.ensures ∙ ap (λ (z : Record). z.effect.makes) one in
    let m = tells rs t about (inr (r, kept, sym same)) in
    let made = subst (λ (l : List Goal). AreMadeGoals (only w rs t) d.target c.args.number l m.0) same m.1 in
    let none : step.goal ≡ None = no_value step.goal (ap is_some (sym c.goal.ensures) ∙ sym c.is_some.ensures ∙ c.if-is_some.false) in (
      m.0,
      inl (ap (λ (z : Record). z.goal) (sym one) ∙ none, subst (λ k. AreMadeGoals (only w rs t) d.target k r.effect.makes m.0) (sym kept.1) made),
      m.2,
    ))

pub returns-clause-too_long : goal.returns-clause-too_long
returns-clause-too_long c e =
    let held = c.records-records.result.now.held in
    let step = c.unwrap-step.result.now in
    let found = subst (λ (o : Option (Bor Record)). IfSome o (λ z. In z.now held × (z.now.number ≡ c.args.number))) c.unwrap-step.ensures c.get.ensures.found in
    let same : c.makes.result.now ≡ step.effect.makes = c.makes.ensures ∙ ap (λ z. z.makes) c.effect-2.ensures in
    let none : step.goal ≡ None = no_value step.goal (ap is_some (sym c.goal.ensures) ∙ sym c.is_some.ensures ∙ c.if-is_some.false) in
    let long = c.write_all_made.ensures.too_long e in
    (step, long.0, (subst (λ (l : List Record). In step l) c.records-records.ensures found.0, found.1), none, subst (λ (l : List Goal). In long.0 l) same long.1, long.2)
