use Rattle.ghc_reader.proofs.Words.{sym, ap, ◌∙◌, SaysGoal}
use Rattle.ghc_reader.proofs.GoalsLowered.{goal_still, goals_skip, goals_step}
use Rattle.ghc_reader.proofs.lowering.goals.lower_body.Goals as goal
use Rattle.ghc_reader.proofs.lowering.goals.lower_body.Goals.{then-not-is_true+in_ok-lower_goal+in_ok-push, else-not-is_true}

pub loop-goal-preserved : goal.loop-goal-preserved
loop-goal-preserved c =
    let before = c.loop-goal in
    let i = before.goal-index in
    elim c.if-not-is_true.branch [
      | then-not-is_true+in_ok-lower_goal+in_ok-push w ↦
          let u = w.in_ok-lower_goal in
          let step = goals_step SaysGoal goal_still c.args.goals.now i c.goal-item.result c.args.scope.now before.scope w.lower_goal.new.scope c.if-not-is_true.scope before.lowered.items w.push.new.self.items c.if-not-is_true.lowered.items u.field-0 w.scope-is (ap (λ v. v.items) w.lowered-is) c.loop-goal-test.true c.goal-item.is (sym c.is_true.ensures ∙ w.if-not-is_true.true) w.in_ok-push.ensures.items before.invariant.says before.invariant.met u.ensures.says u.ensures.met in
          record { says = step.says; met = step.met }
      | else-not-is_true w ↦
          let step = goals_skip SaysGoal c.args.goals.now i c.goal-item.result c.args.scope.now before.scope c.if-not-is_true.scope before.lowered.items c.if-not-is_true.lowered.items w.scope-is (ap (λ v. v.items) w.lowered-is) c.loop-goal-test.true c.goal-item.is (sym c.is_true.ensures ∙ w.if-not-is_true.false) before.invariant.says before.invariant.met in
          record { says = step.says; met = step.met }
    ]
