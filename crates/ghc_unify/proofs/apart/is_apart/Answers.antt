use Rattle.ghc_unify.proofs.Words.{◌++◌, ◌∷◌, [], ◌∙◌, take, take_all, sym, ap, subst, take_more, node, trees, Reaches, value_at}
use Rattle.ghc_unify.proofs.Gaps.{closed_apart, one_more_apart}
use Rattle.ghc_unify.proofs.apart.is_apart.Goals as goal

pub returns-then-is_closed : goal.returns-then-is_closed
returns-then-is_closed c h = closed_apart (c.is_closed.ensures.0 c.if-is_closed.true)

pub loop-argument-init : goal.loop-argument-init
loop-argument-init c f = closed_apart (λ y o. o)

pub loop-argument-preserved : goal.loop-argument-preserved
loop-argument-preserved c f =
    let S = value_at c.args.store.now.held in
    let ts = c.in-Struct.arguments.now in
    let i = c.loop-argument.argument-index in
    let t = c.argument-item.result in
    let more = ap (λ z. take i ts ++ z ∷ []) c.argument-item.is ∙ sym (take_more ts i t c.loop-argument-test.true) in
    subst (λ l. ¬ Reaches S (node f (trees l)) c.args.x) more (one_more_apart f (take i ts) t (c.loop-argument.invariant f) (c.is_leaf_apart-in-loop-argument.ensures c.if-not-is_leaf_apart.false))

pub returns : goal.returns
returns c h =
    let S = value_at c.args.store.now.held in
    let ts = c.in-Struct.arguments.now in
    let all = take_all c.loop-argument.argument-index ts c.loop-argument-test.false in
    let f = c.in-Struct.field-0.now in
    subst (λ t. ¬ Reaches S t c.args.x) (ap (λ l. node f (trees l)) all ∙ c.in-Struct.ensures.shown) (c.loop-argument.invariant f)
