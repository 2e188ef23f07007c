use Rattle.ghc_core.proofs.Words.{◌≡◌, [], ◌∷◌, ◌++◌, ap, sym, ◌∙◌, inl, inr, refl, Some, None, option_copied}
use Rattle.ghc_core.proofs.saved.saving.push_number_at.Goals as goal

pub returns-in_default : goal.returns-in_default
returns-in_default c = inr ((λ r stands. let clash : None ≡ Some r = ap option_copied (sym c.in_default.is) ∙ (c.at.ensures r).1 stands in cc), refl)

pub returns : goal.returns
returns c = inl (c.in-Some.record.now, (c.at.ensures c.in-Some.record.now).0 (ap option_copied c.in-Some.is), c.in_ok-push.ensures.items ∙ ap (λ n. c.args.numbers.now.items ++ n ∷ []) c.number.ensures)
