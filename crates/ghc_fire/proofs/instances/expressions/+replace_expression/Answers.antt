use Rattle.ghc_fire.proofs.Words.{◌<◌, ap, ◌∙◌, arith, IfOk-weaker, leaf, operation, depth_of, replace_in_expression, replacement, operated}
use Rattle.ghc_fire.proofs.Rebuilding.{operated_push}
use Rattle.ghc_fire.proofs.instances.expressions.+replace_expression.Goals as goal

pub returns-in-Leaf : goal.returns-in-Leaf
returns-in-Leaf t c =
    let s = replacement c.args.by in
    let same = c.leaf.ensures ∙ ap leaf c.in_ok-replace_term-in-Leaf.ensures ∙ ap (replace_in_expression s) c.in-Leaf.ensures in
    IfOk-weaker c.rebuild.result _ _ (λ a e. e ∙ ap (operated c.loop-term.rights.items) same ∙ c.loop-term.invariant.1) c.rebuild.ensures

pub replace_expression-requires : goal.replace_expression-requires
replace_expression-requires t c =
    let seen = ap depth_of c.in-Operation.ensures in
    let less : depth_of c.in-Operation.right.now < t = omega (arith, seen, c.loop-term.invariant.0, c.decreases) in
    (less, tt)

pub loop-term-preserved : goal.loop-term-preserved
loop-term-preserved t c =
    let s = replacement c.args.by in
    let seen = ap depth_of c.in-Operation.ensures in
    let left = c.in-Operation.left.now in (
      omega (arith, seen, c.loop-term.invariant.0),
      ap (λ ps. operated ps (replace_in_expression s left)) c.in_ok-push-in-Operation.ensures.items ∙ operated_push c.loop-term.rights.items _ (replace_in_expression s left)
          ∙ ap (operated c.loop-term.rights.items) (ap (operation c.in-Operation.operator (replace_in_expression s left)) c.in_ok-replace_expression-in-Operation.ensures ∙ ap (replace_in_expression s) c.in-Operation.ensures)
          ∙ c.loop-term.invariant.1,
    )
