use Rattle.std.proofs.Common.{arith}
use Rattle.ghc_hooks.proofs.Fitting.{one_note_less}
use Rattle.ghc_hooks.proofs.Waking.{starts, goes_on, spared, woken}
use Rattle.ghc_hooks.proofs.tries.Tries.wake_at.Goals as goal

pub loop-goal-init : goal.loop-goal-init
loop-goal-init c = starts c.args.x c.args.self.now

pub loop-goal-smaller : goal.loop-goal-smaller
loop-goal-smaller c = grind (arith, one_note_less)

pub loop-goal-preserved : goal.loop-goal-preserved
loop-goal-preserved c =
    goes_on c.args.x c.args.self.now c.loop-goal.self c.wake_goal.new.self c.in-Some.goal c.loop-goal.invariant c.in-Some.ensures.some c.wake_goal.ensures.notes c.wake_goal.ensures.untried c.wake_goal.ensures.room

pub returns-clause-notes : goal.returns-clause-notes
returns-clause-notes c = spared c.args.x c.args.self.now c.loop-goal.self c.loop-goal.invariant c.in_default.ensures.none

pub returns-clause-untried : goal.returns-clause-untried
returns-clause-untried c = woken c.args.x c.args.self.now c.loop-goal.self c.loop-goal.invariant c.in_default.ensures.none
