use Rattle.ghc_match.proofs.Words.{rules, ◌≡◌, false, true, sym, ◌∙◌, ap, subst, slice_get, Some, not, option_copied, FirstEnds, AreAlike}
use Rattle.ghc_match.proofs.FirstClash.{first_refuses}
use Rattle.ghc_match.proofs.first.refuses_at_first.Goals as goal

pub returns : goal.returns
returns c h ts S f =
    let v = c.in-Some-Some in
    let at : slice_get c.args.clause.now.head 0 ≡ Some v.head.now = search rules in
    let apart : ¬ AreAlike v.head.now v.end.now = λ a. let clash : false ≡ true = ap not (sym (c.are_alike.ensures.1 a)) ∙ h in cc in
    first_refuses c.args.clause.now v.head.now v.end.now at (c.is_value.ensures.0 c.if-not-is_value.false) (c.is_value-else-not-is_value.ensures.0 c.if-not-is_value-2.false) apart ts S (subst (λ o. FirstEnds S ts (option_copied o)) v.is-1 f)
