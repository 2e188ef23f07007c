use Rattle.ghc_fire.proofs.Words.{◌≤◌, ◌+◌, ◌∷◌, List, [], drop, length, filter, is_none, Option, Some, None, arith, ap, ◌∙◌, at_drop_more, VarName}
use Rattle.ghc_fire.proofs.called.call_variables.Goals as goal

-- no more are new than there are
few_new : (os : List (Option VarName)) → length (filter is_none os) ≤ length os
few_new [] = omega arith
few_new (None ∷ os) = omega (arith, few_new os)
few_new (Some x ∷ os) = omega (arith, few_new os)

pub overflow_add-fresh : goal.overflow_add-fresh
overflow_add-fresh c =
    let named = c.args.named.now in
    let left = ap length (at_drop_more (filter is_none) named c.loop-name.name-index None c.loop-name-test.true ∙ ap (λ o. filter is_none (o ∷ drop (c.loop-name.name-index + 1) named)) c.in_default.is) in
    omega (arith, left, few_new named, c.requires, c.loop-name.invariant.1)
