use Rattle.ghc_reader.proofs.Words.{[], ◌∷◌, length, sym, ap, ◌∙◌, subst, arith, rules, to_z-of_z, value_view}
use mir.Val.{SFits}
use mir.Syntax.{w64}
use Rattle.ghc_reader.specs.declared.token.Token.TheVariants as token
use Rattle.ghc_reader.specs.declared.source.SourceExpression.TheVariants as value
use Rattle.ghc_reader.proofs.Loops.{factors_one, factors_more, expression_one, expression_more}
use Rattle.ghc_reader.proofs.ExpressionFaults as faults
use Rattle.ghc_reader.proofs.ExpressionFounds as founds
use Rattle.ghc_reader.proofs.TermFounds.{passes}
use Rattle.ghc_reader.proofs.expression_parser.+expression.Goals as goal

-- expression
pub expression-returns-in_err-first-clause-fault : goal.expression-returns-in_err-first-clause-fault
expression-returns-in_err-first-clause-fault t c =
    passes c.from_residual.result c.in_err-first.field-0.0 _ _ c.from_residual.ensures.1
    (faults.first_in_expression c.args.tokens.now) c.in_err-first.ensures.fault

pub expression-loop-operator-init : goal.expression-loop-operator-init
expression-loop-operator-init t c = record {
  read = expression_one c.args.tokens.now c.in_ok-first.rest.now (value_view c.in_ok-first.first) c.new-others.result.items c.new-others.ensures.items c.in_ok-first.ensures.found;
  shorter = c.in_ok-first.ensures.shorter;
}

pub expression-returns-in_err-next-clause-fault : goal.expression-returns-in_err-next-clause-fault
expression-returns-in_err-next-clause-fault t c =
    let read = c.loop-operator.invariant.read in
    passes c.from_residual-in_err-next.result c.in_err-next.field-0.0 _ _ c.from_residual-in_err-next.ensures.1
    (λ n f. rw (read.spelled, c.in-Some.ensures) (faults.next_in_expression read.so_far c.in-Some.operator c.in-Some.after.now n f))
    c.in_err-next.ensures.fault

pub expression-loop-operator-preserved : goal.expression-loop-operator-preserved
expression-loop-operator-preserved t c = record {
  read = expression_more c.args.tokens.now c.loop-operator.rest.now c.in-Some.after.now c.in_ok-next.behind.now _ c.loop-operator.others.items c.push.new.self.items c.in-Some.operator c.in_ok-next.next c.loop-operator.invariant.read c.in-Some.ensures c.in_ok-next.ensures.found c.in_ok-push.ensures.items;
  shorter = omega (arith, c.in_ok-next.ensures.shorter, ap length c.in-Some.ensures);
}

pub expression-returns-clause-found : goal.expression-returns-clause-found
expression-returns-clause-found t c = founds.found_expression c.args.tokens.now c.loop-operator.rest.now _ _ c.loop-operator.invariant.read c.in_default.ensures c.in_ok-sums.ensures.value

-- factors
pub factors-returns-in_err-first-clause-fault : goal.factors-returns-in_err-first-clause-fault
factors-returns-in_err-first-clause-fault t c =
    passes c.from_residual.result c.in_err-first.field-0.0 _ _ c.from_residual.ensures.1
    (faults.first_in_product c.args.tokens.now) c.in_err-first.ensures.fault

pub factors-loop-operator-init : goal.factors-loop-operator-init
factors-loop-operator-init t c = record {
  read = factors_one c.args.tokens.now c.in_ok-first.rest.now (value_view c.in_ok-first.first) c.new-others.result.items c.new-others.ensures.items c.in_ok-first.ensures.found;
  shorter = c.in_ok-first.ensures.shorter;
}

pub factors-returns-in_err-next-clause-fault : goal.factors-returns-in_err-next-clause-fault
factors-returns-in_err-next-clause-fault t c =
    let read = c.loop-operator.invariant.read in
    passes c.from_residual-in_err-next.result c.in_err-next.field-0.0 _ _ c.from_residual-in_err-next.ensures.1
    (λ n f. rw (read.spelled, c.in-Some.ensures) (faults.next_in_product read.so_far c.in-Some.operator c.in-Some.after.now n f))
    c.in_err-next.ensures.fault

pub factors-loop-operator-preserved : goal.factors-loop-operator-preserved
factors-loop-operator-preserved t c = record {
  read = factors_more c.args.tokens.now c.loop-operator.rest.now c.in-Some.after.now c.in_ok-next.behind.now _ c.loop-operator.others.items c.push.new.self.items c.in-Some.operator c.in_ok-next.next c.loop-operator.invariant.read c.in-Some.ensures c.in_ok-next.ensures.found c.in_ok-push.ensures.items;
  shorter = omega (arith, c.in_ok-next.ensures.shorter, ap length c.in-Some.ensures);
}

pub factors-returns-clause-found : goal.factors-returns-clause-found
factors-returns-clause-found t c = founds.found_factors c.args.tokens.now c.loop-operator.rest.now _ _ c.loop-operator.invariant.read c.in_default.ensures c.in_ok-products.ensures.value

-- operand
pub operand-returns-in_default-clause-fault : goal.operand-returns-in_default-clause-fault
operand-returns-in_default-clause-fault t c = rw c.in_default.ensures (faults.no_operand_here [] tt)

pub operand-returns-in_default-eat-clause-fault : goal.operand-returns-in_default-eat-clause-fault
operand-returns-in_default-eat-clause-fault t c = founds.at_no_operand_mark c.args.tokens.now c.in-Some.behind.now _ (c.in-Some.ensures ∙ ap (λ x. x ∷ c.in-Some.behind.now) c.in-Mark.is) c.in_default-eat.ensures

pub operand-returns-in_err-value-in-Mark-clause-fault : goal.operand-returns-in_err-value-in-Mark-clause-fault
operand-returns-in_err-value-in-Mark-clause-fault t c =
    passes c.from_residual-in_err-value-in-Mark.result c.in_err-value-in-Mark.field-0.0 _ _ c.from_residual-in_err-value-in-Mark.ensures.1
    (λ n f. subst (λ ts. founds.OperandFault ts n) (sym c.in-Some-eat.ensures) (faults.expression_in_operand c.in-Some-eat.inside.now n f))
    c.in_err-value-in-Mark.ensures.fault

pub operand-returns-in_ok-share-in-Variable-clause-found : goal.operand-returns-in_ok-share-in-Variable-clause-found
operand-returns-in_ok-share-in-Variable-clause-found t c =
    founds.found_named c.args.tokens.now c.in-Some.behind.now c.in_ok-share-in-Variable.field-0 (c.in-Some.ensures ∙ ap (λ x. x ∷ c.in-Some.behind.now) (c.in-Variable.is ∙ ap token.Variable (sym c.in_ok-share-in-Variable.ensures.same)))

pub operand-returns-in-Integer-clause-found : goal.operand-returns-in-Integer-clause-found
operand-returns-in-Integer-clause-found t c =
    let fits : SFits w64 c.in-Integer.integer = search rules in
    subst (λ n. founds.OperandFound c.args.tokens.now (value_view (value.Integer n)) c.in-Some.behind.now) (sym (to_z-of_z w64 c.in-Integer.integer fits))
    (founds.found_number c.args.tokens.now c.in-Some.behind.now c.in-Integer.integer (c.in-Some.ensures ∙ ap (λ x. x ∷ c.in-Some.behind.now) c.in-Integer.is))

pub operand-returns-in-Name-clause-fault : goal.operand-returns-in-Name-clause-fault
operand-returns-in-Name-clause-fault t c = founds.at_no_operand c.args.tokens.now c.in-Some.behind.now _ tt (c.in-Some.ensures ∙ ap (λ x. x ∷ c.in-Some.behind.now) c.in-Name.is)

pub operand-returns-in-Comparison-clause-fault : goal.operand-returns-in-Comparison-clause-fault
operand-returns-in-Comparison-clause-fault t c = founds.at_no_operand c.args.tokens.now c.in-Some.behind.now _ tt (c.in-Some.ensures ∙ ap (λ x. x ∷ c.in-Some.behind.now) c.in-Comparison.is)

pub operand-returns-in-Sum-clause-fault : goal.operand-returns-in-Sum-clause-fault
operand-returns-in-Sum-clause-fault t c = founds.at_no_operand c.args.tokens.now c.in-Some.behind.now _ tt (c.in-Some.ensures ∙ ap (λ x. x ∷ c.in-Some.behind.now) c.in-Sum.is)

pub operand-returns-in-Product-clause-fault : goal.operand-returns-in-Product-clause-fault
operand-returns-in-Product-clause-fault t c = founds.at_no_operand c.args.tokens.now c.in-Some.behind.now _ tt (c.in-Some.ensures ∙ ap (λ x. x ∷ c.in-Some.behind.now) c.in-Product.is)

pub operand-returns-in-None-clause-fault : goal.operand-returns-in-None-clause-fault
operand-returns-in-None-clause-fault t c = founds.at_operand_close c.args.tokens.now c.in-Some-eat.inside.now c.in_ok-value-in-Mark.rest.now _ c.in-Some-eat.ensures c.in_ok-value-in-Mark.ensures.found c.in-None.ensures

pub operand-returns-in-Some-eat-2-clause-found : goal.operand-returns-in-Some-eat-2-clause-found
operand-returns-in-Some-eat-2-clause-found t c = founds.found_nested c.args.tokens.now c.in-Some-eat.inside.now c.in_ok-value-in-Mark.rest.now c.in-Some-eat-2.after.now _ c.in-Some-eat.ensures c.in_ok-value-in-Mark.ensures.found c.in-Some-eat-2.ensures
