use Rattle.ghc_core.proofs.Words.{[], ◌<◌, length, arith, length-take-le, IsToTry}
use Rattle.ghc_core.proofs.Carried.{none_marked, none_to_try, next_marked}
use Rattle.ghc_core.proofs.changes.carrying.mark_made.Goals as goal

pub loop-index-init : goal.loop-index-init
loop-index-init c = (none_marked (IsToTry c.args.step []) c.args.tries.now (none_to_try c.args.step), omega (arith))

pub loop-index-preserved : goal.loop-index-preserved
loop-index-preserved c =
    let i = c.loop-index.index in
    let gs = c.args.makes.now in
    let (marked, kept) = c.loop-index.invariant in
    let within : i < length gs = omega arith in
    let here = rw c.index-makes-index.is at c.mark.ensures.marked in (
      next_marked c.args.step i gs c.index-makes-index.result c.args.tries.now c.loop-index.tries c.mark.new.tries within
          (length-take-le i gs (omega arith)) marked here,
      omega arith,
    )
