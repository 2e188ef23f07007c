use Rattle.ghc_trace.proofs.Words.{arith}
use Rattle.ghc_trace.specs.inner.WhyNotCode.{GoalHasOneOf}
use Rattle.ghc_trace.proofs.WrittenIn.{fails, holds, none_here, none_next, none_yet, one_here}
use Rattle.ghc_trace.proofs.written_in.some_has_one_of.Goals as goal

pub loop-goal-init : goal.loop-goal-init
loop-goal-init c = none_yet (GoalHasOneOf c.args.xs.now)

pub loop-goal-preserved : goal.loop-goal-preserved
loop-goal-preserved c =
    none_next (GoalHasOneOf c.args.xs.now) c.args.goals.now c.loop-goal.goal-index c.goal-item.result c.loop-goal-test.true c.goal-item.is (fails c.in_ok-has.has c.if-has.false c.in_ok-has.ensures) c.loop-goal.invariant

pub returns-then-has : goal.returns-then-has
returns-then-has c =
    one_here (GoalHasOneOf c.args.xs.now) c.args.goals.now c.loop-goal.goal-index c.goal-item.result c.loop-goal-test.true c.goal-item.is (holds c.in_ok-has.has c.if-has.true c.in_ok-has.ensures)

pub returns : goal.returns
returns c = none_here (GoalHasOneOf c.args.xs.now) c.args.goals.now c.loop-goal.goal-index (omega (arith, c.loop-goal-test.false)) c.loop-goal.invariant
