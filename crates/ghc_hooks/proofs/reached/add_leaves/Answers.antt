use Rattle.ghc_hooks.proofs.Words.{subst, Reaches, value_at, Gains}
use Rattle.ghc_hooks.proofs.AtOnce.{gains_next}
use Rattle.ghc_hooks.proofs.reached.add_leaves.Goals as goal

pub loop-term-preserved : goal.loop-term-preserved
loop-term-preserved c =
    gains_next c.args.reached.now c.loop-term.reached c.add_leaf.new.reached c.args.terms.now c.loop-term.term-index c.term-item.result c.loop-term-test.true c.loop-term.invariant
    (subst (λ u. Gains c.loop-term.reached c.add_leaf.new.reached (Reaches (value_at c.args.store.now.held) u)) c.term-item.is (c.in_ok-add_leaf.ensures c.if-not-branch.false))
