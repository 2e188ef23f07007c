use Rattle.ghc_pool.proofs.Words.{sym, subst, arith, all_parts, AreFresh}
use Rattle.ghc_pool.proofs.Openings.{fresh_more}
use Rattle.ghc_pool.proofs.rounds.opening.new_deques.Goals as goal

pub loop-made-preserved : goal.loop-made-preserved
loop-made-preserved c =
    let push = c.in-Ok.ensures in
    (subst (AreFresh all_parts) (sym push.items) (fresh_more c.loop-made.owners.items all_parts c.in_ok-owner.owner c.loop-made.invariant.0 c.in_ok-owner.ensures), omega (arith, push.len, c.loop-made.invariant.1))
