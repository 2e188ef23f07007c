use Rattle.ghc_term.proofs.Words.{◌≡◌, ◌++◌, Err, length, ap, ◌∙◌, refl, arith, Limit, Print, term_text, pieces_text}
use Rattle.ghc_term.proofs.Pieces.{alone}
use Rattle.ghc_term.proofs.Resolving.{resolution, is_text}
use Rattle.ghc_term.proofs.printing.print.Goals as goal

pub returns-in-Ok-clause-text : goal.returns-in-Ok-clause-text
returns-in-Ok-clause-text c =
    let known = resolution c.args.store.now.held c.acyclic.ensures in
    let r = known.0 in
    is_text r known.1 c.args.term.now _ (
    c.in-Ok.ensures.text r known.1 ∙ ap (λ l. l ++ pieces_text r c.push.new.self.items) c.new-out.ensures.bytes
    ∙ alone r (λ _. 0) _ _ _ c.new-pieces.ensures.items c.in_ok-push.ensures.items)

pub returns-in-Err-clause-too_long : goal.returns-in-Err-clause-too_long
returns-in-Err-clause-too_long c e =
    let known = resolution c.args.store.now.held c.acyclic.ensures in
    let r = known.0 in
    let limit : c.in-Err.fault ≡ Limit Print = cc in (
      term_text (r c.args.term.now),
      (is_text r known.1 c.args.term.now _ refl, omega (arith, c.in-Err.ensures.too_long (ap Err limit) r known.1, ap length c.new-out.ensures.bytes, ap length (alone r (λ _. 0) _ _ _ c.new-pieces.ensures.items c.in_ok-push.ensures.items))),
    )
