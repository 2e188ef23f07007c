use Rattle.ghc_term.proofs.Words.{◌≡◌, ◌++◌, [], refl, append-nil, append_assoc, ap, ◌∙◌, arith, string_bytes, codes, if◌then◌else◌, IfOk-weaker, term_text, barred}
use Rattle.ghc_term.proofs.Pieces.{as_said, wrote, left_two, if_written}
use Rattle.ghc_term.proofs.printing.pieces.push_tail.Goals as goal

pub returns-then-branch-clause-text : goal.returns-then-branch-clause-text
returns-then-branch-clause-text c =
    let end = c.args.end.now in
    let before = string_bytes c.args.out.now in
    let marked = string_bytes c.push_mark.new.out in
    let leaf : string_bytes c.push_leaf.new.out ≡ before ++ (codes "|" ++ term_text end) = c.in_ok-push_leaf.ensures.text
    ∙ ap (λ b. marked ++ (if b then term_text end else [])) c.if-branch.true ∙ ap (λ t. t ++ term_text end) c.in_ok-push_mark.ensures ∙ append_assoc before (codes "|") (term_text end) in
    IfOk-weaker c.push_mark-then-branch.result _ _ (λ _ e r w same.
    as_said r w _ _ _ _ _ _ _ _ (ap (λ t. barred (term_text t)) (same (c.in_ok-push_leaf.ensures.leaf c.if-branch.true))) (omega arith)
    (wrote r w (barred (term_text end)) 1 _ _ _ (e ∙ ap (λ t. t ++ codes "]") leaf ∙ append_assoc before (codes "|" ++ term_text end) (codes "]")) (omega arith)))
    (if_written c.push_mark-then-branch.result _ _ _ c.push_mark-then-branch.ensures)

pub returns-clause-text : goal.returns-clause-text
returns-clause-text c r w same =
    let end = c.args.end.now in
    let marked = string_bytes c.push_mark.new.out in
    let written : string_bytes c.push_leaf.new.out ≡ string_bytes c.args.out.now ++ codes "|" = c.in_ok-push_leaf.ensures.text
    ∙ ap (λ b. marked ++ (if b then term_text end else [])) c.if-branch.false ∙ append-nil marked ∙ c.in_ok-push_mark.ensures in
    as_said r w _ _ _ _ _ _ _ _ refl (omega arith)
    (left_two r w (codes "|") _ _ _ _ _ _ _ written c.in_ok-push.ensures.items c.in_ok-push-2.ensures.items)
