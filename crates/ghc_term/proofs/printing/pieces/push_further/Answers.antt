use Rattle.ghc_term.proofs.Words.{◌≡◌, ◌-◌, ◌++◌, [], ◌∷◌, length, take, drop, append-nil, append_assoc, sym, ap, ◌∙◌, arith, string_bytes, if◌then◌else◌, common_steps, term_text, further_text, all_resolved, total, arguments_size}
use Rattle.ghc_term.proofs.Pieces.{as_said, resumed, left_two, first_rest}
use Rattle.ghc_term.proofs.Resolving.{same_end, same_leaf}
use Rattle.ghc_term.proofs.printing.pieces.push_further.Goals as goal

pub returns-then-not-branch-clause-text : goal.returns-then-not-branch-clause-text
returns-then-not-branch-clause-text c r w g m =
    let left = c.loop-left.left.now in
    let rest = take (length left - 1) (drop 1 left) in
    let front = first_rest left c.next-item.result c.in-len1-up.len_at_least c.next-item.is in
    let l = c.end-last.ensures.1 in
    let looped = c.loop-left.invariant in
    let marked = string_bytes c.push_mark-in-loop-left.new.out in
    let written : string_bytes c.push_leaf.new.out ≡ string_bytes c.loop-left.out ++ 44 ∷ [] = c.in_ok-push_leaf.ensures.text
    ∙ ap (λ b. marked ++ (if b then term_text c.end-last.result.now else [])) c.if-not-branch.true ∙ append-nil marked ∙ c.in_ok-push_mark.ensures in
    let text : further_text (all_resolved r left) ≡ 44 ∷ (term_text (r c.end-last.result.now) ++ further_text (all_resolved r rest)) =
    ap (λ ts. further_text (all_resolved r ts)) front ∙ ap (λ u. 44 ∷ (term_text u ++ further_text (all_resolved r rest))) (same_end r g l) in
    resumed r w _ (further_text (all_resolved r left)) (arguments_size w left) _ _ _ _ _ _ _ looped.0 (looped.1.0 r g) (looped.1.1.0 w)
    (as_said r w _ _ _ _ _ _ _ _ text (omega (arith, m.along l, ap (total w) front)) (left_two r w (44 ∷ []) _ _ _ _ _ _ _ written c.in_ok-push.ensures.items c.in_ok-push-2.ensures.items))

pub loop-left-preserved : goal.loop-left-preserved
loop-left-preserved c =
    let left = c.loop-left.left.now in
    let rest = take (length left - 1) (drop 1 left) in
    let front = first_rest left c.next-item.result c.in-len1-up.len_at_least c.next-item.is in
    let l = c.end-last.ensures.1 in
    let end = c.end-last.result.now in
    let looped = c.loop-left.invariant in
    let before = string_bytes c.loop-left.out in
    let marked = string_bytes c.push_mark-in-loop-left.new.out in
    let written : string_bytes c.push_leaf.new.out ≡ (before ++ 44 ∷ []) ++ term_text end = c.in_ok-push_leaf.ensures.text
    ∙ ap (λ b. marked ++ (if b then term_text end else [])) c.if-not-branch.false ∙ ap (λ t. t ++ term_text end) c.in_ok-push_mark.ensures in (
      looped.0,
      (
        λ r g.
            let further = further_text (all_resolved r rest) in
            let text : further_text (all_resolved r left) ≡ 44 ∷ (term_text end ++ further) =
            ap (λ ts. further_text (all_resolved r ts)) front ∙ ap (λ u. 44 ∷ (term_text u ++ further)) (same_leaf r g l (c.in_ok-push_leaf.ensures.leaf c.if-not-branch.false)) in
            ap (λ t. t ++ further) written ∙ append_assoc (before ++ 44 ∷ []) (term_text end) further ∙ append_assoc before (44 ∷ []) (term_text end ++ further) ∙ ap (λ t. before ++ t) (sym text) ∙ looped.1.0 r g,
        (λ w. omega (arith, ap (total w) front, looped.1.1.0 w), grind (arith, common_steps)),
      ),
    )
