use Rattle.ghc_term.proofs.Words.{ap, arith, IfOk-weaker, piece_text, piece_size}
use Rattle.ghc_term.proofs.Pieces.{as_said, wrote, anywhere, if_written}
use Rattle.ghc_term.proofs.printing.pieces.push_piece.Goals as goal

pub returns-in-Term-clause-text : goal.returns-in-Term-clause-text
returns-in-Term-clause-text c =
    IfOk-weaker c.push_term.result _ _ (λ _ u r w g m.
    as_said r w _ _ _ _ _ _ _ _ (ap (piece_text r) c.in-Term.is) (omega (arith, ap (piece_size w) c.in-Term.is)) (u r w g m)) c.push_term.ensures.text

pub returns-in-Rest-clause-text : goal.returns-in-Rest-clause-text
returns-in-Rest-clause-text c =
    IfOk-weaker c.push_rest.result _ _ (λ _ u r w g m.
    as_said r w _ _ _ _ _ _ _ _ (ap (piece_text r) c.in-Rest.is) (omega (arith, ap (piece_size w) c.in-Rest.is)) (u r w g m)) c.push_rest.ensures.text

pub returns-in-Further-clause-text : goal.returns-in-Further-clause-text
returns-in-Further-clause-text c =
    IfOk-weaker c.push_further.result _ _ (λ _ u r w g m.
    as_said r w _ _ _ _ _ _ _ _ (ap (piece_text r) c.in-Further.is) (omega (arith, ap (piece_size w) c.in-Further.is)) (u r w g m)) c.push_further.ensures.text

pub returns-in-Mark-clause-text : goal.returns-in-Mark-clause-text
returns-in-Mark-clause-text c =
    IfOk-weaker c.push_str.result _ _ (λ _ e r w g m.
    as_said r w _ _ _ _ _ _ _ _ (ap (piece_text r) c.in-Mark.is) (omega (arith, ap (piece_size w) c.in-Mark.is))
    (wrote r w c.in-Mark.mark.now 1 _ _ _ e (omega arith))) (if_written c.push_str.result _ _ _ c.push_str.ensures.bytes)

pub returns-in-Expr-clause-text : goal.returns-in-Expr-clause-text
returns-in-Expr-clause-text c =
    IfOk-weaker c.push_expression.result _ _ (λ _ u r w g m.
    as_said r w _ _ _ _ _ _ _ _ (ap (piece_text r) c.in-Expr.is) (omega (arith, ap (piece_size w) c.in-Expr.is)) (anywhere r w _ _ _ _ _ (u r w))) c.push_expression.ensures

pub returns-in-Operand-clause-text : goal.returns-in-Operand-clause-text
returns-in-Operand-clause-text c =
    IfOk-weaker c.push_operand.result _ _ (λ _ u r w g m.
    as_said r w _ _ _ _ _ _ _ _ (ap (piece_text r) c.in-Operand.is) (omega (arith, ap (piece_size w) c.in-Operand.is)) (u r w)) c.push_operand.ensures.text
