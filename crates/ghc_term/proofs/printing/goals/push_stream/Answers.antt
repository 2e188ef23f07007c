use Rattle.ghc_term.proofs.Words.{◌≡◌, ◌++◌, sym, ap, ◌∙◌, append_assoc, string_bytes, codes, decimal, IfOk-weaker, term_text, variable_text, pieces_text}
use Rattle.ghc_term.proofs.Pieces.{joined, spaced, left_one}
use Rattle.ghc_term.proofs.Resolving.{same_bound, same_free}
use Rattle.ghc_term.proofs.printing.goals.push_stream.Goals as goal

pub returns-in_ok-push-in-Some-clause-text : goal.returns-in_ok-push-in-Some-clause-text
returns-in_ok-push-in-Some-clause-text c r g =
    let before = string_bytes c.args.out.now in
    let number = decimal c.args.number in
    let front : string_bytes c.push_str-2.new.self ≡ before ++ (codes "instream " ++ (number ++ codes " ")) = rw (c.in_ok-push_str-2.ensures.bytes, c.in_ok-push_number.ensures, c.in_ok-push_str.ensures.bytes) (simp append_assoc) in
    let rest = pieces_text r c.args.pieces.now.items in
    let text = term_text (r c.in-Some.value.now) in
    let said = ap term_text (same_bound r g c.args.tail c.in-Some.value.now (sym c.in-Some.ensures)) in
    let left = (left_one r (λ _. 0) _ _ _ (string_bytes c.push_str-2.new.self) c.in_ok-push-in-Some.ensures.items).whole in
    joined before (codes "instream " ++ (number ++ codes " ")) text rest _ _ front left
    ∙ ap (λ l. before ++ (codes "instream " ++ l)) (spaced number text rest)
    ∙ ap (λ t. before ++ ((codes "instream " ++ (number ++ (codes " " ++ t))) ++ rest)) (sym said)

pub returns-in-None-clause-text : goal.returns-in-None-clause-text
returns-in-None-clause-text c =
    let before = string_bytes c.args.out.now in
    let number = decimal c.args.number in
    let front : string_bytes c.push_str-2.new.self ≡ before ++ (codes "instream " ++ (number ++ codes " ")) = rw (c.in_ok-push_str-2.ensures.bytes, c.in_ok-push_number.ensures, c.in_ok-push_str.ensures.bytes) (simp append_assoc) in
    let text = variable_text c.args.tail in
    IfOk-weaker c.push_variable.result _ _ (λ _ e r g.
    let rest = pieces_text r c.args.pieces.now.items in
    let said = ap term_text (same_free r g c.args.tail (sym c.in-None.ensures)) in
    let written = ap (λ l. l ++ rest) e ∙ append_assoc (string_bytes c.push_str-2.new.self) text rest in
    joined before (codes "instream " ++ (number ++ codes " ")) text rest _ _ front written
    ∙ ap (λ l. before ++ (codes "instream " ++ l)) (spaced number text rest)
    ∙ ap (λ t. before ++ ((codes "instream " ++ (number ++ (codes " " ++ t))) ++ rest)) (sym said)) c.push_variable.ensures.text
