use Rattle.ghc_reader.proofs.Words.{◌≡◌, ◌++◌, take, flat_map, factor_views, summand_views, names_in}
use Rattle.ghc_reader.proofs.limits.names.+operands.Given as goal

abbrev pub invariant-push_factors-loop-factor : goal.invariant-push_factors-loop-factor
invariant-push_factors-loop-factor l = l.out.items ≡ l.initial.out.items ++ flat_map (λ x. names_in x.1) (factor_views (take l.factor-index l.factors))

abbrev pub invariant-push_summands-loop-summand : goal.invariant-push_summands-loop-summand
invariant-push_summands-loop-summand l = l.out.items ≡ l.initial.out.items ++ flat_map (λ x. names_in x.1) (summand_views (take l.summand-index l.summands))
