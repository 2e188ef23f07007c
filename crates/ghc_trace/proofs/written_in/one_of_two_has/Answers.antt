use Rattle.ghc_trace.proofs.Words.{[], ◌∷◌}
use Rattle.ghc_core.proofs.Redone.{if_ok}
use Rattle.ghc_trace.proofs.WrittenIn.{fails, holds, in_head, in_one, in_tail}
use Rattle.ghc_trace.proofs.written_in.one_of_two_has.Goals as goal

pub returns-then-has : goal.returns-then-has
returns-then-has c = in_head c.args.xs.now c.args.left.now (c.args.right.now ∷ []) (holds c.in_ok-has.has c.if-has.true c.in_ok-has.ensures)

pub returns : goal.returns
returns c = if_ok c.has_one_of-2.result c.has_one_of-2.ensures (λ b is.
    in_tail c.args.xs.now c.args.left.now (c.args.right.now ∷ []) b (fails c.in_ok-has.has c.if-has.false c.in_ok-has.ensures) (in_one c.args.xs.now c.args.right.now b is))
