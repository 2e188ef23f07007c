use Rattle.ghc_fire.proofs.Words.{sym, ap, ◌∙◌, Operator, Expression, operated}
use Rattle.ghc_fire.proofs.Rebuilding.{operated_push}
use Rattle.ghc_fire.proofs.instances.expressions.rebuild.Goals as goal

pub loop-operator-preserved : goal.loop-operator-preserved
loop-operator-preserved c =
    let rest = c.pop.new.self.items in
    let p : Operator × Expression = (c.in-Some.operator, c.in-Some.right) in
    ap (operated rest) c.in_ok-expression.ensures ∙ sym (operated_push rest p c.loop-operator.expression)
    ∙ ap (λ ps. operated ps c.loop-operator.expression) (sym c.in-Some.ensures.items) ∙ c.loop-operator.invariant
