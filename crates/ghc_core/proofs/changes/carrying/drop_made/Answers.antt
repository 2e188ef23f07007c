use Rattle.ghc_core.proofs.Words.{◌-◌, arith, name}
use Rattle.ghc_core.proofs.Carried.{one_dropped, next_dropped}
use Rattle.ghc_core.proofs.changes.carrying.drop_made.Goals as goal

pub loop-place-preserved : goal.loop-place-preserved
loop-place-preserved c =
    let i = c.loop-place.place in
    let (dropped, kept, most) = c.loop-place.invariant in (
      next_dropped c.args.step i c.args.count c.args.tries.now c.loop-place.tries c.drop_goal.new.self c.loop-place-test.true most dropped
          (one_dropped c.loop-place.tries c.drop_goal.new.self (name _ i) c.drop_goal.ensures.notes c.drop_goal.ensures.untried) (i - 1) (omega arith),
      omega arith,
      omega arith,
    )
