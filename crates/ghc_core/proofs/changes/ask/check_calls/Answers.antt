use Rattle.ghc_core.proofs.Words.{◌≡◌, ◌∙◌, true, false, sym, subst, length, In, in_place, calls_next, first_undefined, same_call, not_a_call, HasClauseFor}
use Rattle.ghc_core.proofs.changes.ask.check_calls.Goals as goal
use Rattle.ghc_core.proofs.changes.ask.check_calls.Goals.{in-Call+else-not-is_defined, in_default}

pub undefined-requires : goal.undefined-requires
undefined-requires c =
    let stands = in_place c.args.goals.now c.loop-goal.goal-index c.goal-item.result c.loop-goal-test.true c.goal-item.is in
    c.requires c.in-Call.name.now c.in-Call.arguments.now (subst (λ g. In g c.args.goals.now) (sym c.in-Call.ensures) stands)

pub returns-then-not-is_defined-clause-refused : goal.returns-then-not-is_defined-clause-refused
returns-then-not-is_defined-clause-refused c =
    let D = HasClauseFor c.args.program.now in
    let missing : ¬ D c.in-Call.name.now (length c.in-Call.arguments.now) = λ d. let clash : true ≡ false = sym (c.is_defined.ensures.1 d) ∙ c.if-not-is_defined.true in cc in
    let first = first_undefined D c.args.goals.now c.loop-goal.goal-index c.goal-item.result c.in-Call.name.now c.in-Call.arguments.now c.loop-goal-test.true c.goal-item.is c.loop-goal.invariant c.in-Call.ensures missing in
    (c.in-Call.name.now, length c.in-Call.arguments.now, first, c.undefined.ensures)

pub loop-goal-preserved : goal.loop-goal-preserved
loop-goal-preserved c =
    let D = HasClauseFor c.args.program.now in
    calls_next D c.args.goals.now c.loop-goal.goal-index c.goal-item.result c.loop-goal-test.true c.goal-item.is c.loop-goal.invariant
    (λ f ts e. elim c.match-view.branch [
      | in-Call+else-not-is_defined w ↦ same_call D w.in-Call.name.now f w.in-Call.arguments.now ts (w.in-Call.ensures ∙ e) (w.is_defined.ensures.0 w.if-not-is_defined.false)
      | in_default w ↦ absurd (not_a_call c.view.result f ts w.in_default.not-Call (c.view.ensures ∙ e))
    ])
