use Rattle.ghc_core.proofs.Redone.{if_ok}
use Rattle.ghc_hooks.specs.Reached.{leaves}
use Rattle.ghc_trace.proofs.WrittenIn.{fails, holds, in_head, in_tail}
use Rattle.ghc_trace.proofs.written_in.assignment_has.Goals as goal

pub returns-then-has : goal.returns-then-has
returns-then-has c = in_head c.args.xs.now c.args.target.now (leaves c.args.value.now) (holds c.in_ok-has.has c.if-has.true c.in_ok-has.ensures)

pub returns : goal.returns
returns c = if_ok c.a_leaf_has_one_of.result c.a_leaf_has_one_of.ensures (λ b is.
    in_tail c.args.xs.now c.args.target.now (leaves c.args.value.now) b (fails c.in_ok-has.has c.if-has.false c.in_ok-has.ensures) is)
