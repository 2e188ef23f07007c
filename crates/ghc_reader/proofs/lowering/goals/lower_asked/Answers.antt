use Rattle.ghc_reader.proofs.Words.{sym, ap, ◌∙◌, SaysAsked}
use Rattle.ghc_reader.proofs.GoalsLowered.{asked_still, goals_skip, goals_step}
use Rattle.ghc_reader.proofs.Streams.{counted_more, counted_same}
use Rattle.ghc_reader.proofs.WithinLimits.{streams_below}
use Rattle.ghc_reader.proofs.lowering.goals.lower_asked.Goals as goal
use Rattle.ghc_reader.proofs.lowering.goals.lower_asked.Goals.{then-not-is_true+in_ok-lower_asked_goal+in_ok-push, else-not-is_true}

pub lower_asked_goal-requires : goal.lower_asked_goal-requires
lower_asked_goal-requires c =
    streams_below c.args.goals.now c.loop-goal.goal-index c.loop-goal.streams c.loop-goal.scope c.loop-goal.lowered.items c.loop-goal-test.true c.requires c.loop-goal.invariant.says c.loop-goal.invariant.count

pub loop-goal-preserved : goal.loop-goal-preserved
loop-goal-preserved c =
    let before = c.loop-goal in
    let i = before.goal-index in
    elim c.if-not-is_true.branch [
      | then-not-is_true+in_ok-lower_asked_goal+in_ok-push w ↦
          let u = w.in_ok-lower_asked_goal in
          let step = goals_step SaysAsked asked_still c.args.goals.now i c.goal-item.result c.args.scope.now before.scope w.lower_asked_goal.new.scope c.if-not-is_true.scope before.lowered.items w.push.new.self.items c.if-not-is_true.lowered.items u.field-0 w.scope-is (ap (λ v. v.items) w.lowered-is) c.loop-goal-test.true c.goal-item.is (sym c.is_true.ensures ∙ w.if-not-is_true.true) w.in_ok-push.ensures.items before.invariant.says before.invariant.met u.ensures.says u.ensures.met in
          let streams = counted_more before.streams w.lower_asked_goal.new.streams c.if-not-is_true.streams before.lowered.items w.push.new.self.items c.if-not-is_true.lowered.items u.field-0 w.streams-is (ap (λ v. v.items) w.lowered-is) w.in_ok-push.ensures.items before.invariant.streams before.invariant.count u.ensures.counted in
          record { says = step.says; met = step.met; streams = streams.streams; count = streams.count_is }
      | else-not-is_true w ↦
          let step = goals_skip SaysAsked c.args.goals.now i c.goal-item.result c.args.scope.now before.scope c.if-not-is_true.scope before.lowered.items c.if-not-is_true.lowered.items w.scope-is (ap (λ v. v.items) w.lowered-is) c.loop-goal-test.true c.goal-item.is (sym c.is_true.ensures ∙ w.if-not-is_true.false) before.invariant.says before.invariant.met in
          let streams = counted_same before.streams c.if-not-is_true.streams before.lowered.items c.if-not-is_true.lowered.items w.streams-is (ap (λ v. v.items) w.lowered-is) before.invariant.streams before.invariant.count in
          record { says = step.says; met = step.met; streams = streams.streams; count = streams.count_is }
    ]
