use Rattle.ghc_term.proofs.Words.{◌≡◌, ◌+◌, ◌≤◌, max, ap, arith, depth_of, expression_of}
use Rattle.ghc_term.proofs.expr.Expr.+drop.Goals as goal

pub drop-right-requires : goal.drop-right-requires
drop-right-requires t c =
    let inner : depth_of c.in-Some.field-0.right ≡ depth_of c.in-Operation.operands.value.right = ap (λ o. depth_of o.right) c.in-Some.ensures in
    let whole : depth_of (expression_of c.self.inside.shape) ≡ max (depth_of c.in-Operation.operands.value.left + 1) (depth_of c.in-Operation.operands.value.right + 1) = ap (λ s. depth_of (expression_of s)) c.in-Operation.is in
    let viewed : depth_of (expression_of c.self.inside.shape) ≡ depth_of c.loop-term.self = ap depth_of c.self.view_is in
    let low : depth_of c.in-Some.field-0.right + 1 ≤ depth_of c.args.self = omega (arith, c.loop-term.invariant) in
    (omega (arith, low, c.decreases), tt)
