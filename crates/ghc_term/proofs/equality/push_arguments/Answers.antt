use Rattle.std.proofs.Common.{arith}
use Rattle.ghc_term.proofs.Alike.{arguments_more}
use Rattle.ghc_term.proofs.equality.push_arguments.Goals as goal

pub loop-index-preserved : goal.loop-index-preserved
loop-index-preserved c = (
  omega (arith, c.loop-index.invariant.0),
  arguments_more c.args.lefts.now c.args.rights.now c.loop-index.index _ _ _ _ _ _ _ (omega arith) c.loop-index.invariant.0 c.requires
      c.index-lefts-index.is c.index-rights-index.is c.in_ok-push.ensures.items c.loop-index.invariant.1,
)
