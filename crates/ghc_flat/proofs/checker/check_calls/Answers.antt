use Rattle.ghc_flat.proofs.Words.{◌≡◌, ◌∙◌, sym, subst, inl, inr, length, [], Knows, numbers_at, In, in_place, is_nothing, is_something}
use Rattle.ghc_flat.proofs.Clauses.{calls_next, first_undefined, same_call, not_a_call}
use Rattle.ghc_flat.proofs.checker.check_calls.Goals as goal
use Rattle.ghc_flat.proofs.checker.check_calls.Goals.{in-Call+else-is_empty, in_default}

pub undefined-requires : goal.undefined-requires
undefined-requires c =
    let stands = in_place c.args.goals.now c.loop-goal.goal-index c.goal-item.result c.loop-goal-test.true c.goal-item.is in
    c.requires c.in-Call.name.now c.in-Call.arguments.now (subst (λ g. In g c.args.goals.now) (sym c.in-Call.ensures) stands)

pub returns-then-is_empty-clause-refused : goal.returns-then-is_empty-clause-refused
returns-then-is_empty-clause-refused c =
    let nothing : numbers_at c.args.index.now c.in-Call.name.now (length c.in-Call.arguments.now) ≡ [] = sym c.numbers.ensures ∙ is_nothing c.numbers.result.now (sym c.is_empty.ensures ∙ c.if-is_empty.true) in
    let first = first_undefined (Knows c.args.index.now) c.args.goals.now c.loop-goal.goal-index c.goal-item.result c.in-Call.name.now c.in-Call.arguments.now c.loop-goal-test.true c.goal-item.is c.loop-goal.invariant c.in-Call.ensures (λ k. k nothing) in
    elim c.undefined.ensures [
      | inl e ↦ inl e
      | inr e ↦ inr (c.in-Call.name.now, length c.in-Call.arguments.now, first, e)
    ]

pub loop-goal-preserved : goal.loop-goal-preserved
loop-goal-preserved c =
    calls_next (Knows c.args.index.now) c.args.goals.now c.loop-goal.goal-index c.goal-item.result c.loop-goal-test.true c.goal-item.is c.loop-goal.invariant
    (λ f ts e. elim c.match-view.branch [
      | in-Call+else-is_empty w ↦
          let there : numbers_at c.args.index.now w.in-Call.name.now (length w.in-Call.arguments.now) ≡ [] → ⊥ = λ none. is_something w.numbers.result.now (sym w.is_empty.ensures ∙ w.if-is_empty.false) (w.numbers.ensures ∙ none) in
          same_call (Knows c.args.index.now) w.in-Call.name.now f w.in-Call.arguments.now ts (w.in-Call.ensures ∙ e) there
      | in_default w ↦ absurd (not_a_call c.view.result f ts w.in_default.not-Call (c.view.ensures ∙ e))
    ])
