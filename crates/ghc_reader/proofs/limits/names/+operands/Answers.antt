use Rattle.ghc_reader.proofs.Words.{arith, ap, ◌∙◌, common_steps, value_view, names_in}
use Rattle.ghc_reader.proofs.AmountLemmas.{names_of_products, names_of_sums, push_more}
use Rattle.ghc_reader.proofs.limits.names.+operands.Goals as goal

pub push_expression-returns-in_ok-push_expression-in-Products :
    goal.push_expression-returns-in_ok-push_expression-in-Products
push_expression-returns-in_ok-push_expression-in-Products t c =
    grind (arith, common_steps, ap (λ u. names_in (value_view u)) c.in-Products.is ∙ names_of_products c.in-Products.first c.in-Products.others)

pub push_expression-returns-in_ok-push_expression-in-Sums :
    goal.push_expression-returns-in_ok-push_expression-in-Sums
push_expression-returns-in_ok-push_expression-in-Sums t c =
    grind (arith, common_steps, ap (λ u. names_in (value_view u)) c.in-Sums.is ∙ names_of_sums c.in-Sums.first c.in-Sums.others)

pub push_factors-loop-factor-preserved : goal.push_factors-loop-factor-preserved
push_factors-loop-factor-preserved t c = push_more (λ x. names_in x.1) (λ x. (x.0, value_view x.1)) c.args.factors.now c.loop-factor.factor-index c.loop-factor-item.result _ _ _ c.loop-factor-test.true c.loop-factor-item.is c.loop-factor.invariant c.in_ok-push_expression.ensures

pub push_summands-loop-summand-preserved : goal.push_summands-loop-summand-preserved
push_summands-loop-summand-preserved t c = push_more (λ x. names_in x.1) (λ x. (x.0, value_view x.1)) c.args.summands.now c.loop-summand.summand-index c.loop-summand-item.result _ _ _ c.loop-summand-test.true c.loop-summand-item.is c.loop-summand.invariant c.in_ok-push_expression.ensures
