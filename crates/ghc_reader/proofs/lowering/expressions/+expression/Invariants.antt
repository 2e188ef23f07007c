use Rattle.ghc_reader.proofs.Words.{take, variables_of_expression, Value, products, sums, factor_views, summand_views, Names, SaysValue, MeetsAll}
use Rattle.ghc_reader.proofs.lowering.expressions.+expression.Given as goal

abbrev pub invariant-lower_products-loop-operator : goal.invariant-lower_products-loop-operator
invariant-lower_products-loop-operator l = record {
  says : (left : Value) → SaysValue l.initial.scope left l.initial.value → SaysValue l.scope (products left (factor_views (take l.operator-index l.others))) l.value;
  met : (names : Names) → MeetsAll names (variables_of_expression l.initial.value) l.initial.scope → MeetsAll names (variables_of_expression l.value) l.scope;
}

abbrev pub invariant-lower_sums-loop-operator : goal.invariant-lower_sums-loop-operator
invariant-lower_sums-loop-operator l = record {
  says : (left : Value) → SaysValue l.initial.scope left l.initial.value → SaysValue l.scope (sums left (summand_views (take l.operator-index l.others))) l.value;
  met : (names : Names) → MeetsAll names (variables_of_expression l.initial.value) l.initial.scope → MeetsAll names (variables_of_expression l.value) l.scope;
}
