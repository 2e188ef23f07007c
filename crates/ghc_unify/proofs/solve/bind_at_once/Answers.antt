use Rattle.ghc_unify.proofs.Words.{◌≡◌, rules, ap, ◌∙◌, None, value_at}
use Rattle.std.specs.FinMap as finite
use Rattle.ghc_unify.proofs.Gaps.{bound_at_once}
use Rattle.ghc_unify.proofs.solve.bind_at_once.Goals as goal

pub returns-clause-bound : goal.returns-clause-bound
returns-clause-bound c _ =
    let S = value_at c.args.store.now.held in
    let x = c.in-Var.x in
    let free : S x ≡ None = search rules in
    let new = c.in_ok-insert_near.ensures.ok ∙ ap (λ m. finite.insert m x c.in_ok-share.field-0) c.requires ∙ ap (finite.insert finite.empty x) c.in_ok-share.ensures in
    bound_at_once S x c.args.left.now c.args.right.now c.insert_near.new.self c.in-Var.ensures.shown free (c.is_apart.ensures c.if-not-is_apart.false) new
