use Rattle.ghc_reader.proofs.Words.{IfOk-weaker, value_view}
use Rattle.ghc_reader.proofs.ExpressionsLowered.{product_more, sum_more, operation_meets, products_say, sums_say}
use Rattle.ghc_reader.proofs.lowering.expressions.+expression.Goals as goal

pub lower_expression-returns-in_ok-first-in-Products-clause-says : goal.lower_expression-returns-in_ok-first-in-Products-clause-says
lower_expression-returns-in_ok-first-in-Products-clause-says t c =
    IfOk-weaker c.lower_products.result _ _
    (λ e h. products_say c.args.expression.now c.in-Products.first c.in-Products.others c.deref.result.now c.deref-in-Products.result.now c.lower_products.new.scope e c.in-Products.is c.deref.ensures c.deref-in-Products.ensures.value h)
    (c.lower_products.ensures.says (value_view c.deref.result.now) c.in_ok-first-in-Products.ensures.says)

pub lower_products-loop-operator-preserved : goal.lower_products-loop-operator-preserved
lower_products-loop-operator-preserved t c =
    let i = c.loop-operator.operator-index in
    let item = c.loop-operator-item in
    let r = c.in_ok-right in
    record {
      says = λ left h. product_more left c.args.others.now i item.result c.loop-operator.scope c.lower_expression.new.scope c.product_operator.result c.loop-operator.value r.right c.in_ok-value.value c.loop-operator-test.true item.is c.product_operator.ensures c.in_ok-value.ensures (c.loop-operator.invariant.says left h) r.ensures.says r.ensures.met;
      met = λ names m. operation_meets names c.loop-operator.scope c.lower_expression.new.scope c.product_operator.result c.loop-operator.value r.right c.in_ok-value.value c.in_ok-value.ensures (c.loop-operator.invariant.met names m) r.ensures.met;
    }

pub lower_expression-returns-in_ok-first-in-Sums-clause-says : goal.lower_expression-returns-in_ok-first-in-Sums-clause-says
lower_expression-returns-in_ok-first-in-Sums-clause-says t c =
    IfOk-weaker c.lower_sums.result _ _
    (λ e h. sums_say c.args.expression.now c.in-Sums.first c.in-Sums.others c.deref-in-Sums.result.now c.deref-in-Sums-2.result.now c.lower_sums.new.scope e c.in-Sums.is c.deref-in-Sums.ensures c.deref-in-Sums-2.ensures.value h)
    (c.lower_sums.ensures.says (value_view c.deref-in-Sums.result.now) c.in_ok-first-in-Sums.ensures.says)

pub lower_sums-loop-operator-preserved : goal.lower_sums-loop-operator-preserved
lower_sums-loop-operator-preserved t c =
    let i = c.loop-operator.operator-index in
    let item = c.loop-operator-item in
    let r = c.in_ok-right in
    record {
      says = λ left h. sum_more left c.args.others.now i item.result c.loop-operator.scope c.lower_expression.new.scope c.sum_operator.result c.loop-operator.value r.right c.in_ok-value.value c.loop-operator-test.true item.is c.sum_operator.ensures c.in_ok-value.ensures (c.loop-operator.invariant.says left h) r.ensures.says r.ensures.met;
      met = λ names m. operation_meets names c.loop-operator.scope c.lower_expression.new.scope c.sum_operator.result c.loop-operator.value r.right c.in_ok-value.value c.in_ok-value.ensures (c.loop-operator.invariant.met names m) r.ensures.met;
    }
