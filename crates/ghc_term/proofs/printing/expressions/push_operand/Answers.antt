use Rattle.ghc_term.proofs.Words.{sym, ap, arith, codes, expression_text_by, operand, expression_size}
use Rattle.ghc_term.proofs.Pieces.{as_said, left_one, left_two}
use Rattle.ghc_term.proofs.printing.expressions.push_operand.Goals as goal

pub returns-in_ok-push-in-Leaf-clause-text : goal.returns-in_ok-push-in-Leaf-clause-text
returns-in_ok-push-in-Leaf-clause-text c r w =
    as_said r w _ _ _ _ _ _ _ _ (ap (λ e. operand e (expression_text_by r e)) (sym c.in-Leaf.ensures)) (omega (arith, ap (expression_size w) c.in-Leaf.ensures))
    (left_one r w _ _ _ _ c.in_ok-push-in-Leaf.ensures.items)

pub returns-in_ok-push-in-Operation-2-clause-text : goal.returns-in_ok-push-in-Operation-2-clause-text
returns-in_ok-push-in-Operation-2-clause-text c r w =
    as_said r w _ _ _ _ _ _ _ _ (ap (λ e. operand e (expression_text_by r c.args.expression.now)) (sym c.in-Operation.ensures)) (omega arith)
    (left_two r w (codes "(") _ _ _ _ _ _ _ c.in_ok-push_str-in-Operation.ensures.bytes c.in_ok-push-in-Operation.ensures.items c.in_ok-push-in-Operation-2.ensures.items)
