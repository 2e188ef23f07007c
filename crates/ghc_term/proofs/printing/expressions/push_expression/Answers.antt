use Rattle.ghc_term.proofs.Words.{◌++◌, [], sym, ap, ◌∙◌, arith, IfOk-weaker, expression_text_by, operand, expression_size}
use Rattle.ghc_term.proofs.Pieces.{as_said, left_one}
use Rattle.ghc_term.proofs.printing.expressions.push_expression.Goals as goal

pub returns-in_ok-push-in-Leaf : goal.returns-in_ok-push-in-Leaf
returns-in_ok-push-in-Leaf c r w =
    as_said r w _ _ _ _ _ _ _ _ (ap (expression_text_by r) (sym c.in-Leaf.ensures)) (omega (arith, ap (expression_size w) c.in-Leaf.ensures))
    (left_one r w _ _ _ [] c.in_ok-push-in-Leaf.ensures.items)

pub returns-in-Operation : goal.returns-in-Operation
returns-in-Operation c = IfOk-weaker c.push_sides.result _ _ (λ _ u r w.
    let left = c.in-Operation.left.now in
    let right = c.in-Operation.right.now in
    as_said r w _ _ _ _ _ _ _ _ (ap (expression_text_by r) (sym c.in-Operation.ensures) ∙ ap (λ m. operand left (expression_text_by r left) ++ (m ++ operand right (expression_text_by r right))) (sym c.mark_of-mark.ensures))
    (omega (arith, ap (expression_size w) c.in-Operation.ensures))
    (u r w)) c.push_sides.ensures
