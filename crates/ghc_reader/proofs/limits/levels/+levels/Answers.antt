use Rattle.ghc_reader.proofs.Words.{sym, ap, ◌∙◌, arith, products, sums, factor_views, summand_views, levels, value_view, take}
use Rattle.ghc_reader.proofs.AmountLemmas.{counted, counted_above, levels_of_factors, levels_of_summands}
use Rattle.ghc_reader.proofs.limits.levels.+levels.Goals as goal

pub over_factors-loop-factor-preserved : goal.over_factors-loop-factor-preserved
over_factors-loop-factor-preserved t c =
    let xs = c.args.factors.now in
    let i = c.loop-factor.factor-index in
    let x = c.loop-factor-item.result in
    record {
      counted = omega (arith, c.above-most.ensures);
      deepest = λ left first.
          counted_above (levels (products left (factor_views (take i xs)))) (levels (value_view x.1)) c.loop-factor.most c.levels.result c.above-most.result (c.loop-factor.invariant.deepest left first) c.levels.ensures c.above-most.ensures
          ∙ ap counted (sym (levels_of_factors left xs i x c.loop-factor-test.true c.loop-factor-item.is));
    }

pub over_summands-loop-summand-preserved : goal.over_summands-loop-summand-preserved
over_summands-loop-summand-preserved t c =
    let xs = c.args.summands.now in
    let i = c.loop-summand.summand-index in
    let x = c.loop-summand-item.result in
    record {
      counted = omega (arith, c.above-most.ensures);
      deepest = λ left first.
          counted_above (levels (sums left (summand_views (take i xs)))) (levels (value_view x.1)) c.loop-summand.most c.levels.result c.above-most.result (c.loop-summand.invariant.deepest left first) c.levels.ensures c.above-most.ensures
          ∙ ap counted (sym (levels_of_summands left xs i x c.loop-summand-test.true c.loop-summand-item.is));
    }
