use Rattle.ghc_hooks.proofs.Words.{◌⊎◌, Reaches, value_at}
use Rattle.ghc_hooks.proofs.AtOnce.{all_gained}
use Rattle.ghc_hooks.proofs.reached.reached_by_both.Goals as goal

pub returns-then-branch : goal.returns-then-branch
returns-then-branch c =
    let S = value_at c.args.store.now.held in
    all_gained (λ x. Reaches S c.args.left.now x ⊎ Reaches S c.args.right.now x) c.new-reached.result c.add_both.new.reached c.new-reached.ensures (c.in_ok-add_both.ensures c.if-branch.true)
