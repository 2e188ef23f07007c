use Rattle.ghc_reader.proofs.Words.{◌≡◌, ◌≤◌, take, factor_views, summand_views, levels, products, sums, Value}
use Rattle.std.specs.Prelude.{min}
use Rattle.ghc_reader.proofs.limits.levels.+levels.Given as goal

abbrev pub invariant-over_factors-loop-factor : goal.invariant-over_factors-loop-factor
invariant-over_factors-loop-factor l = record {
  counted : l.most ≤ 1001;
  deepest : (left : Value) → l.initial.first ≡ min (levels left) 1001 → l.most ≡ min (levels (products left (factor_views (take l.factor-index l.factors)))) 1001;
}

abbrev pub invariant-over_summands-loop-summand : goal.invariant-over_summands-loop-summand
invariant-over_summands-loop-summand l = record {
  counted : l.most ≤ 1001;
  deepest : (left : Value) → l.initial.first ≡ min (levels left) 1001 → l.most ≡ min (levels (sums left (summand_views (take l.summand-index l.summands)))) 1001;
}
