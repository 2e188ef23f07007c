use Rattle.ghc_term.proofs.Words.{◌≡◌, ◌++◌, [], refl, ap, ◌∙◌, string_bytes, if◌then◌else◌, arith, common_steps, IfOk-weaker, term_text, piece_text}
use Rattle.ghc_term.specs.inner.Lookup.{held_in}
use Rattle.ghc_term.proofs.Pieces.{starts, anywhere, behind, through}
use Rattle.ghc_term.proofs.Resolving.{same_leaf, measure, is_measure}
use Rattle.ghc_term.proofs.printing.goals.push_equation.Goals as goal

pub returns-then-not-branch-clause-text : goal.returns-then-not-branch-clause-text
returns-then-not-branch-clause-text c =
    let before = string_bytes c.args.out.now in
    let written : string_bytes c.push_leaf.new.out ≡ before ++ [] = c.in_ok-push_leaf.ensures.text ∙ ap (λ b. before ++ (if b then term_text c.end-last.result.now else [])) c.if-not-branch.true in
    IfOk-weaker c.push_sides.result _ _ (λ _ u r g.
    let text = term_text (r c.args.left.now) ++ (c.args.mark.now ++ piece_text r c.args.right) in
    starts r (λ _. 0) text text _ _ _ _ _ refl (behind r (λ _. 0) [] text _ _ _ _ _ _ written (anywhere r (λ _. 0) _ _ _ _ _ (u r (λ _. 0))))) c.push_sides.ensures

pub returns-clause-text : goal.returns-clause-text
returns-clause-text c =
    let held = held_in c.args.lookup.now in
    let last = c.end-last.result.now in
    let before = string_bytes c.args.out.now in
    let written : string_bytes c.push_leaf.new.out ≡ before ++ term_text last = c.in_ok-push_leaf.ensures.text ∙ ap (λ b. before ++ (if b then term_text last else [])) c.if-not-branch.false in
    let w = measure held in
    IfOk-weaker c.push_piece.result _ _ (λ _ u r g.
    let said = same_leaf r g c.end-last.ensures.1 (c.in_ok-push_leaf.ensures.leaf c.if-not-branch.false) in
    let behind_mark = c.args.mark.now ++ piece_text r c.args.right in
    starts r w _ _ _ _ _ _ _ (ap (λ t. term_text t ++ behind_mark) said)
    (behind r w (term_text last) behind_mark _ _ _ _ _ _ written
    (behind r w c.args.mark.now _ _ _ _ _ _ _ c.in_ok-push_str.ensures.bytes (u r w g (is_measure held c.acyclic.ensures))))) c.push_piece.ensures.text

pub returns-clause-begun : goal.returns-clause-begun
returns-clause-begun c = through _ (string_bytes c.push_leaf.new.out) _ (grind (arith, common_steps)) (through _ (string_bytes c.push_str.new.self) _ (grind (arith, common_steps)) c.push_piece.ensures.begun)
