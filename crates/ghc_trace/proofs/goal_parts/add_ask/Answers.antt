use Rattle.ghc_trace.proofs.Words.{◌≡◌, ◌∙◌, ◌++◌, ◌∷◌, [], true, false, sym, ap, inl, inr, refl}
use Rattle.ghc_trace.proofs.goal_parts.add_ask.Goals as goal

pub returns-then-not-reaches_in : goal.returns-then-not-reaches_in
returns-then-not-reaches_in c = inr ((λ yes. let clash : false ≡ true = sym c.if-not-reaches_in.true ∙ c.reaches_in.ensures.1 yes in cc), refl)

pub returns : goal.returns
returns c = inl (c.reaches_in.ensures.0 c.if-not-reaches_in.false, c.in_ok-push.ensures.items ∙ ap (λ n. c.args.asks.now.items ++ n ∷ []) c.number.ensures)
