use Rattle.ghc_term.proofs.Words.{◌≡◌, ◌++◌, Err, length, length-append, append-nil, ap, ◌∙◌, refl, arith, string_bytes, Limit, Print, goal_text_by, pieces_text}
use Rattle.ghc_term.proofs.Resolving.{resolution, is_goal_text}
use Rattle.ghc_term.proofs.printing.print_goal.Goals as goal

pub returns-in-Ok-clause-text : goal.returns-in-Ok-clause-text
returns-in-Ok-clause-text c =
    let known = resolution c.args.store.now.held c.acyclic.ensures in
    let r = known.0 in
    let text = goal_text_by r c.args.goal.now in
    let begun = c.in_ok-push_goal.ensures.text r known.1 in
    is_goal_text r known.1 c.args.goal.now _ (
    c.in-Ok.ensures.text r known.1 ∙ begun ∙ ap (λ l. l ++ (text ++ pieces_text r c.new-pieces.result.items)) c.new-out.ensures.bytes
    ∙ ap (λ ps. text ++ pieces_text r ps) c.new-pieces.ensures.items ∙ append-nil text)

pub returns-in-Err-clause-too_long : goal.returns-in-Err-clause-too_long
returns-in-Err-clause-too_long c e =
    let known = resolution c.args.store.now.held c.acyclic.ensures in
    let r = known.0 in
    let text = goal_text_by r c.args.goal.now in
    let begun = c.in_ok-push_goal.ensures.text r known.1 in
    let whole = begun ∙ ap (λ l. l ++ (text ++ pieces_text r c.new-pieces.result.items)) c.new-out.ensures.bytes ∙ ap (λ ps. text ++ pieces_text r ps) c.new-pieces.ensures.items ∙ append-nil text in
    let limit : c.in-Err.fault ≡ Limit Print = cc in (
      text,
      (is_goal_text r known.1 c.args.goal.now _ refl, omega (arith, c.in-Err.ensures.too_long (ap Err limit) r known.1, ap length whole, length-append (string_bytes c.push_goal.new.out) (pieces_text r c.push_goal.new.pieces.items))),
    )
