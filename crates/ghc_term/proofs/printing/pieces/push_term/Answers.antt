use Rattle.ghc_term.proofs.Words.{rules, ◌≡◌, ◌++◌, [], append-nil, sym, ap, ◌∙◌, arith, string_bytes, IfOk-weaker, OnOk, is_ok, if◌then◌else◌, signed_decimal, term_text, variable_text, all_resolved}
use Rattle.ghc_term.proofs.Pieces.{as_said, wrote, if_written}
use Rattle.ghc_term.proofs.Texts.{structure_text, no_new_cell}
use Rattle.ghc_term.proofs.Resolving.{same_end, same_free, same_integer, same_node, same_cell, cell_room, end_free}
use Rattle.ghc_term.proofs.printing.pieces.push_term.Goals as goal

pub returns-in-Some-clause-text : goal.returns-in-Some-clause-text
returns-in-Some-clause-text c =
    let l = c.end-end.ensures.1 in
    IfOk-weaker c.push_cell.result _ _ (λ _ u r w g m.
    as_said r w _ _ _ _ _ _ _ _ (ap term_text (same_cell r g l c.in-Some.head.now c.in-Some.tail.now c.in-Some.ensures))
    (omega (arith, cell_room w m l c.in-Some.head.now c.in-Some.tail.now c.in-Some.ensures)) (u r w g m)) c.push_cell.ensures.text

pub returns-in-Var-clause-text : goal.returns-in-Var-clause-text
returns-in-Var-clause-text c =
    let l = c.end-end.ensures.1 in
    IfOk-weaker c.push_variable.result _ _ (λ _ e r w g m.
    let said = same_end r g l ∙ ap r (sym c.in-Var.ensures.shown) ∙ same_free r g c.in-Var.x (end_free l c.in-Var.x (sym c.in-Var.ensures.shown)) in
    as_said r w _ _ _ _ _ _ _ _ (ap term_text said) (omega arith) (wrote r w (variable_text c.in-Var.x) 1 _ _ _ e (omega arith))) c.push_variable.ensures.text

pub returns-in-Int-clause-text : goal.returns-in-Int-clause-text
returns-in-Int-clause-text c =
    let l = c.end-end.ensures.1 in
    let written : OnOk c.push_integer.result (string_bytes c.push_integer.new.out ≡ string_bytes c.args.out.now ++ signed_decimal c.in-Int.k) = search rules in
    IfOk-weaker c.push_integer.result _ _ (λ _ e r w g m.
    let said = same_end r g l ∙ ap r (sym c.in-Int.ensures.shown) ∙ same_integer r g in
    as_said r w _ _ _ _ _ _ _ _ (ap term_text said) (omega arith) (wrote r w (signed_decimal c.in-Int.k) 1 _ _ _ e (omega arith))) written

pub returns-in-Atom-clause-text : goal.returns-in-Atom-clause-text
returns-in-Atom-clause-text c =
    let l = c.end-end.ensures.1 in
    let f = c.in-Atom.name.now in
    let name = c.push_str.ensures.bytes ∙ ap (λ n. if is_ok c.push_str.result then string_bytes c.args.out.now ++ n else string_bytes c.args.out.now) c.as_str.ensures.bytes in
    IfOk-weaker c.push_str.result _ _ (λ _ e r w g m.
    let said = same_end r g l ∙ ap r (sym c.in-Atom.ensures.shown) ∙ same_node r g f [] in
    as_said r w _ _ _ _ _ _ _ _ (ap term_text said ∙ append-nil f) (omega arith) (wrote r w f 1 _ _ _ e (omega arith))) (if_written c.push_str.result _ _ _ name)

pub returns-in-Struct-clause-text : goal.returns-in-Struct-clause-text
returns-in-Struct-clause-text c =
    let l = c.end-end.ensures.1 in
    let f = c.in-Struct.name.now in
    let ts = c.in-Struct.arguments.now in
    IfOk-weaker c.push_structure.result _ _ (λ _ u r w g m.
    let there = ap r (sym c.in-Struct.ensures.shown) ∙ same_node r g f ts in
    let apart = no_new_cell (g c.end-end.result.now) (end_free l) c.in_default.ensures in
    as_said r w _ _ _ _ _ _ _ _ (ap term_text (same_end r g l ∙ there) ∙ structure_text f (all_resolved r ts) (λ t v e. apart t v (there ∙ e)))
    (omega (arith, m.along l, m.below f ts, ap w c.in-Struct.ensures.shown)) (u r w g m)) c.push_structure.ensures.text
