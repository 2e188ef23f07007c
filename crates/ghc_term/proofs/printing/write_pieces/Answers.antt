use Rattle.ghc_term.proofs.Words.{rules, ◌≡◌, ◌++◌, [], length, length-append, append-nil, sym, ap, ◌∙◌, arith, string_bytes, common_steps, pieces_text}
use Rattle.ghc_term.specs.inner.Lookup.{held_in}
use Rattle.ghc_term.proofs.Resolving.{resolution, measure, is_measure}
use Rattle.ghc_term.proofs.Pieces.{taken}
use Rattle.ghc_term.proofs.printing.write_pieces.Goals as goal

pub returns-then-len-limit-clause-too_long : goal.returns-then-len-limit-clause-too_long
returns-then-len-limit-clause-too_long c _ r g =
    let written = string_bytes c.loop-pieces.out in
    let whole = c.loop-pieces.invariant.0 r g in
    let measured : c.len.result ≡ length written = search rules in
    omega (arith, measured, c.if-len-limit.true, ap length whole, length-append written (pieces_text r c.loop-pieces.pieces.items), length-append (string_bytes c.args.out.now) (pieces_text r c.args.pieces.items))

pub loop-pieces-smaller : goal.loop-pieces-smaller
loop-pieces-smaller c =
    let known = resolution (held_in c.args.lookup.now) c.acyclic.ensures in
    let w = measure (held_in c.args.lookup.now) in
    (taken known.0 w c.in-Some.piece _ _ _ _ _ c.in-Some.ensures.items (c.in_ok-push_piece-in-Some.ensures.text known.0 w known.1 (is_measure (held_in c.args.lookup.now) c.acyclic.ensures))).1

pub loop-pieces-preserved : goal.loop-pieces-preserved
loop-pieces-preserved c =
    let w = measure (held_in c.args.lookup.now) in
    (λ r g. (taken r w c.in-Some.piece _ _ _ _ _ c.in-Some.ensures.items (c.in_ok-push_piece-in-Some.ensures.text r w g (is_measure (held_in c.args.lookup.now) c.acyclic.ensures))).0 ∙ c.loop-pieces.invariant.0 r g, grind (arith, common_steps))

pub returns-in-None-clause-text : goal.returns-in-None-clause-text
returns-in-None-clause-text c r g =
    let none_left : c.loop-pieces.pieces.items ≡ [] = search rules in
    sym (append-nil (string_bytes c.loop-pieces.out)) ∙ ap (λ ps. string_bytes c.loop-pieces.out ++ pieces_text r ps) (sym none_left) ∙ c.loop-pieces.invariant.0 r g
