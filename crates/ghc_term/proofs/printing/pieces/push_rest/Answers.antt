use Rattle.ghc_term.proofs.Words.{◌≡◌, ◌≢◌, ◌++◌, [], ◌∷◌, true, false, refl, sym, append-nil, append_assoc, ap, ◌∙◌, arith, string_bytes, codes, if◌then◌else◌, IfOk-weaker, common_steps, term_text, rest_text, nil}
use Rattle.ghc_term.specs.inner.Lookup.{held_in}
use Rattle.ghc_term.specs.inner.Pieces.{rest_size}
use Rattle.ghc_term.proofs.Pieces.{as_said, behind, wrote, resumed, left_one, left_two, if_written}
use Rattle.ghc_term.proofs.Texts.{rest_barred, no_new_nil, no_new_cell}
use Rattle.ghc_term.proofs.Resolving.{same_end, same_leaf, same_node, same_cell, cell_room, end_free, measure, is_measure}
use Rattle.ghc_term.proofs.printing.pieces.push_rest.Goals as goal

pub returns-then-is_nil-clause-text : goal.returns-then-is_nil-clause-text
returns-then-is_nil-clause-text c =
    let left = c.loop-end.left.now in
    let looped = c.loop-end.invariant in
    let l = c.end-end.ensures.1 in
    let is : c.end-end.result.now ≡ nil = c.if-is_nil.ensures.0 refl in
    IfOk-weaker c.push_mark.result _ _ (λ _ e r w g m.
    let said = same_end r g l ∙ ap r is ∙ same_node r g (codes "[]") [] in
    resumed r w _ (rest_text (r left)) (rest_size w left) _ _ _ _ _ _ _ looped.0 (looped.1.0 r g) (looped.1.1.0 w m)
    (as_said r w _ _ _ _ _ _ _ _ (ap rest_text said) (omega arith) (wrote r w (codes "]") 1 _ _ _ e (omega arith)))) (if_written c.push_mark.result _ _ _ c.push_mark.ensures)

pub returns-in_default-clause-text : goal.returns-in_default-clause-text
returns-in_default-clause-text c =
    let left = c.loop-end.left.now in
    let looped = c.loop-end.invariant in
    let l = c.end-end.ensures.1 in
    let last = c.end-end.result.now in
    IfOk-weaker c.push_tail.result _ _ (λ _ u r w g m.
    let open_end : r last ≢ nil = λ e. absurd (let clash : false ≡ true = c.if-is_nil.ensures.1 (no_new_nil (g last) (end_free l) e) in cc) in
    let said = ap rest_text (same_end r g l) ∙ rest_barred (r last) open_end (no_new_cell (g last) (end_free l) c.in_default.ensures) in
    resumed r w _ (rest_text (r left)) (rest_size w left) _ _ _ _ _ _ _ looped.0 (looped.1.0 r g) (looped.1.1.0 w m)
    (as_said r w _ _ _ _ _ _ _ _ said (omega (arith, m.along l)) (u r w (λ leaf. sym (same_end r g l) ∙ same_leaf r g l leaf)))) c.push_tail.ensures.text

pub returns-then-not-branch-clause-text : goal.returns-then-not-branch-clause-text
returns-then-not-branch-clause-text c r w g m =
    let left = c.loop-end.left.now in
    let looped = c.loop-end.invariant in
    let l = c.end-end.ensures.1 in
    let head = c.end-first.ensures.1 in
    let first = c.end-first.result.now in
    let rest = c.in-Some.tail.now in
    let marked = string_bytes c.push_mark-in-loop-end.new.out in
    let written : string_bytes c.push_leaf.new.out ≡ string_bytes c.loop-end.out ++ 44 ∷ [] = c.in_ok-push_leaf.ensures.text
    ∙ ap (λ b. marked ++ (if b then term_text first else [])) c.if-not-branch.true ∙ append-nil marked ∙ c.in_ok-push_mark.ensures in
    let text : rest_text (r left) ≡ 44 ∷ (term_text (r first) ++ rest_text (r rest)) =
    ap rest_text (same_cell r g l c.in-Some.head.now rest c.in-Some.ensures) ∙ ap (λ u. 44 ∷ (term_text u ++ rest_text (r rest))) (same_end r g head) in
    resumed r w _ (rest_text (r left)) (rest_size w left) _ _ _ _ _ _ _ looped.0 (looped.1.0 r g) (looped.1.1.0 w m)
    (as_said r w _ _ _ _ _ _ _ _ text (omega (arith, m.along head, cell_room w m l c.in-Some.head.now rest c.in-Some.ensures)) (left_two r w (44 ∷ []) _ _ _ _ _ _ _ written c.in_ok-push.ensures.items c.in_ok-push-2.ensures.items))

pub returns-then-len-enough-clause-text : goal.returns-then-len-enough-clause-text
returns-then-len-enough-clause-text c r w g m =
    let left = c.loop-end.left.now in
    let looped = c.loop-end.invariant in
    let l = c.end-end.ensures.1 in
    let head = c.end-first.ensures.1 in
    let first = c.end-first.result.now in
    let rest = c.in-Some.tail.now in
    let before = string_bytes c.loop-end.out in
    let marked = string_bytes c.push_mark-in-loop-end.new.out in
    let written : string_bytes c.push_leaf.new.out ≡ before ++ (44 ∷ term_text first) = c.in_ok-push_leaf.ensures.text
    ∙ ap (λ b. marked ++ (if b then term_text first else [])) c.if-not-branch.false ∙ ap (λ t. t ++ term_text first) c.in_ok-push_mark.ensures ∙ append_assoc before (44 ∷ []) (term_text first) in
    let text : rest_text (r left) ≡ 44 ∷ (term_text first ++ rest_text (r rest)) =
    ap rest_text (same_cell r g l c.in-Some.head.now rest c.in-Some.ensures) ∙ ap (λ u. 44 ∷ (term_text u ++ rest_text (r rest))) (same_leaf r g head (c.in_ok-push_leaf.ensures.leaf c.if-not-branch.false)) in
    resumed r w _ (rest_text (r left)) (rest_size w left) _ _ _ _ _ _ _ looped.0 (looped.1.0 r g) (looped.1.1.0 w m)
    (as_said r w _ _ _ _ _ _ _ _ text (omega (arith, cell_room w m l c.in-Some.head.now rest c.in-Some.ensures))
    (behind r w (44 ∷ term_text first) _ _ _ _ _ _ _ written (left_one r w _ _ _ _ c.in_ok-push-3.ensures.items)))

pub loop-end-smaller : goal.loop-end-smaller
loop-end-smaller c =
    let s = held_in c.args.lookup.now in
    omega (arith, cell_room (measure s) (is_measure s c.acyclic.ensures) c.end-end.ensures.1 c.in-Some.head.now c.in-Some.tail.now c.in-Some.ensures)

pub loop-end-preserved : goal.loop-end-preserved
loop-end-preserved c =
    let left = c.loop-end.left.now in
    let looped = c.loop-end.invariant in
    let l = c.end-end.ensures.1 in
    let head = c.end-first.ensures.1 in
    let first = c.end-first.result.now in
    let rest = c.in-Some.tail.now in
    let before = string_bytes c.loop-end.out in
    let marked = string_bytes c.push_mark-in-loop-end.new.out in
    let written : string_bytes c.push_leaf.new.out ≡ before ++ (44 ∷ term_text first) = c.in_ok-push_leaf.ensures.text
    ∙ ap (λ b. marked ++ (if b then term_text first else [])) c.if-not-branch.false ∙ ap (λ t. t ++ term_text first) c.in_ok-push_mark.ensures ∙ append_assoc before (44 ∷ []) (term_text first) in (
      looped.0,
      (
        λ r g.
            let further = rest_text (r rest) in
            let text : rest_text (r left) ≡ 44 ∷ (term_text first ++ further) =
            ap rest_text (same_cell r g l c.in-Some.head.now rest c.in-Some.ensures) ∙ ap (λ u. 44 ∷ (term_text u ++ further)) (same_leaf r g head (c.in_ok-push_leaf.ensures.leaf c.if-not-branch.false)) in
            ap (λ t. t ++ further) written ∙ append_assoc before (44 ∷ term_text first) further ∙ ap (λ t. before ++ t) (sym text) ∙ looped.1.0 r g,
        (λ w m. omega (arith, cell_room w m l c.in-Some.head.now rest c.in-Some.ensures, looped.1.1.0 w m), grind (arith, common_steps)),
      ),
    )
