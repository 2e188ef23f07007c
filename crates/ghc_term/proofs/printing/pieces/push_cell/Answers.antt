use Rattle.ghc_term.proofs.Words.{◌≡◌, ◌++◌, [], ◌∷◌, append-nil, append_assoc, ap, ◌∙◌, arith, string_bytes, if◌then◌else◌, IfOk-weaker, common_steps, term_text, rest_text}
use Rattle.ghc_term.proofs.Pieces.{as_said, behind, left_two, through}
use Rattle.ghc_term.proofs.Resolving.{same_end, same_leaf}
use Rattle.ghc_term.proofs.printing.pieces.push_cell.Goals as goal

pub returns-then-branch-clause-text : goal.returns-then-branch-clause-text
returns-then-branch-clause-text c =
    let end = c.end-end.result.now in
    let mark = c.args.mark in
    let before = string_bytes c.args.out.now in
    let marked = string_bytes c.push_mark.new.out in
    let written : string_bytes c.push_leaf.new.out ≡ before ++ (mark ∷ term_text end) = c.in_ok-push_leaf.ensures.text
    ∙ ap (λ b. marked ++ (if b then term_text end else [])) c.if-branch.true ∙ ap (λ t. t ++ term_text end) c.in_ok-push_mark.ensures ∙ append_assoc before (mark ∷ []) (term_text end) in
    IfOk-weaker c.push_rest.result _ _ (λ _ u r w g m.
    let said = same_leaf r g c.end-end.ensures.1 (c.in_ok-push_leaf.ensures.leaf c.if-branch.true) in
    as_said r w _ _ _ _ _ _ _ _ (ap (λ t. mark ∷ (term_text t ++ rest_text (r c.args.tail.now))) said) (omega arith)
    (behind r w (mark ∷ term_text end) _ _ _ _ _ _ _ written (u r w g m))) c.push_rest.ensures.text

pub returns-then-branch-clause-begun : goal.returns-then-branch-clause-begun
returns-then-branch-clause-begun c = through _ (string_bytes c.push_leaf.new.out) _ (grind (arith, common_steps)) c.push_rest.ensures.begun

pub returns-clause-text : goal.returns-clause-text
returns-clause-text c r w g m =
    let mark = c.args.mark in
    let marked = string_bytes c.push_mark.new.out in
    let l = c.end-end.ensures.1 in
    let written : string_bytes c.push_leaf.new.out ≡ string_bytes c.args.out.now ++ mark ∷ [] = c.in_ok-push_leaf.ensures.text
    ∙ ap (λ b. marked ++ (if b then term_text c.end-end.result.now else [])) c.if-branch.false ∙ append-nil marked ∙ c.in_ok-push_mark.ensures in
    as_said r w _ _ _ _ _ _ _ _ (ap (λ t. mark ∷ (term_text t ++ rest_text (r c.args.tail.now))) (same_end r g l)) (omega (arith, m.along l))
    (left_two r w (mark ∷ []) _ _ _ _ _ _ _ written c.in_ok-push.ensures.items c.in_ok-push-2.ensures.items)
