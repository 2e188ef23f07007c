use Rattle.ghc_reader.proofs.Words.{◌+◌, ◌*◌, ◌<◌, length, products, sums, value_view, factor_views, summand_views}
use Rattle.ghc_reader.proofs.Loops.{FactorsSoFar, ExpressionSoFar}
use Rattle.ghc_reader.proofs.expression_parser.+expression.Given as goal

abbrev pub decreases-operand : goal.decreases-operand
decreases-operand l = 3 * length l.tokens.now

abbrev pub decreases-factors : goal.decreases-factors
decreases-factors l = 3 * length l.tokens.now + 1

abbrev pub decreases-expression : goal.decreases-expression
decreases-expression l = 3 * length l.tokens.now + 2

abbrev pub invariant-factors-loop-operator : goal.invariant-factors-loop-operator
invariant-factors-loop-operator l = record {
  read : FactorsSoFar l.tokens (products (value_view l.first) (factor_views l.others.items)) l.rest;
  shorter : length l.rest < length l.tokens;
}

abbrev pub decreases-factors-loop-operator : goal.decreases-factors-loop-operator
decreases-factors-loop-operator l = length l.rest

abbrev pub invariant-expression-loop-operator : goal.invariant-expression-loop-operator
invariant-expression-loop-operator l = record {
  read : ExpressionSoFar l.tokens (sums (value_view l.first) (summand_views l.others.items)) l.rest;
  shorter : length l.rest < length l.tokens;
}

abbrev pub decreases-expression-loop-operator : goal.decreases-expression-loop-operator
decreases-expression-loop-operator l = length l.rest
