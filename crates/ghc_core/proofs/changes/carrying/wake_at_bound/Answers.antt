use Rattle.ghc_core.proofs.Words.{arith, IsBound}
use Rattle.ghc_core.proofs.Carried.{Firsts, spared_more, woken_more, spared_as, woken_as, firsts_bound, bound_firsts}
use Rattle.ghc_core.proofs.changes.carrying.wake_at_bound.Goals as goal

pub loop-x-preserved : goal.loop-x-preserved
loop-x-preserved c =
    let es = c.entries-x-items.result.now in
    let b = c.loop-x-item.result in
    let i = c.loop-x.x-index in
    let (before, woken, kept) = c.loop-x.invariant in (
      spared_more es i b c.loop-x-test.true c.args.tries.now c.loop-x.tries c.wake_at.new.self before (rw c.loop-x-item.is at c.wake_at.ensures.notes),
      woken_more es i b c.loop-x-test.true c.args.tries.now c.loop-x.tries c.wake_at.new.self before woken (rw c.loop-x-item.is at c.wake_at.ensures.untried),
      omega arith,
    )

pub returns : goal.returns
returns c =
    let es = c.entries-x-items.result.now in
    let i = c.loop-x.x-index in
    let (spared, woken, kept) = c.loop-x.invariant in
    let forth = firsts_bound es c.args.binds.now c.entries-x-items.ensures.all i c.loop-x-test.false in
    let back = bound_firsts es c.args.binds.now c.entries-x-items.ensures.all i c.loop-x-test.false in
    record {
      notes = spared_as (Firsts es i) (IsBound c.args.binds.now) c.args.tries.now.notes c.loop-x.tries.notes forth back spared;
      untried = woken_as (Firsts es i) (IsBound c.args.binds.now) c.args.tries.now.notes c.args.tries.now.untried c.loop-x.tries.untried forth back woken;
      room = kept;
    }
