use Rattle.ghc_term.proofs.Words.{◌++◌, sym, ap, ◌∙◌, string_bytes, IfOk-weaker, goal_text_by, pieces_text}
use Rattle.ghc_term.specs.inner.Lookup.{held_in}
use Rattle.ghc_term.proofs.Pieces.{starts}
use Rattle.ghc_term.proofs.Resolving.{measure, is_measure}
use Rattle.ghc_term.proofs.printing.goals.push_goal.Goals as goal

pub returns-in-Call-clause-text : goal.returns-in-Call-clause-text
returns-in-Call-clause-text c =
    IfOk-weaker c.push_structure.result _ _ (λ _ u r g.
    starts r _ _ _ _ _ _ _ _ (ap (goal_text_by r) (sym c.in-Call.ensures)) (u r (measure (held_in c.args.lookup.now)) g (is_measure (held_in c.args.lookup.now) c.acyclic.ensures))) c.push_structure.ensures.text

pub returns-in-Unify-clause-text : goal.returns-in-Unify-clause-text
returns-in-Unify-clause-text c =
    IfOk-weaker c.push_equation.result _ _ (λ _ u r g.
    u r g ∙ ap (λ text. string_bytes c.args.out.now ++ (text ++ pieces_text r c.args.pieces.now.items)) (ap (goal_text_by r) c.in-Unify.ensures)) c.push_equation.ensures.text

pub returns-in-Assign-clause-text : goal.returns-in-Assign-clause-text
returns-in-Assign-clause-text c =
    IfOk-weaker c.push_equation-in-Assign.result _ _ (λ _ u r g.
    u r g ∙ ap (λ text. string_bytes c.args.out.now ++ (text ++ pieces_text r c.args.pieces.now.items)) (ap (goal_text_by r) c.in-Assign.ensures)) c.push_equation-in-Assign.ensures.text
