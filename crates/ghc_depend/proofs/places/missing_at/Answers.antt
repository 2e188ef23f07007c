use Rattle.ghc_depend.proofs.Words.{◌≡◌, sym, ap, ◌∙◌, subst, refl, Some, None, option_copied, In, Record, one_record, number_any}
use Rattle.ghc_depend.proofs.OrderWalks.{not_any}
use Rattle.ghc_depend.proofs.places.missing_at.Goals as goal

pub returns-in_default-clause-none : goal.returns-in_default-clause-none
returns-in_default-clause-none c r stands = let clash : None ≡ Some r = ap option_copied (sym c.in_default.is) ∙ (c.at.ensures r).1 stands in cc

pub returns-then-contains-clause-none : goal.returns-then-contains-clause-none
returns-then-contains-clause-none c r stands =
    let keys = c.args.places.now.keys in
    let own = c.in-Some.record.now in
    let same : own ≡ r = one_record c.args.records.now.slots c.args.slot c.args.slot own r ((c.at.ensures own).0 (ap option_copied c.in-Some.is)) stands refl in
    subst (λ n. In n keys) (c.number-number.ensures ∙ ap (λ (z : Record). z.number) same) (number_any c.number-number.result keys (sym c.contains.ensures ∙ c.if-contains.true))

pub returns-clause-missing : goal.returns-clause-missing
returns-clause-missing c =
    let own = c.in-Some.record.now in
    (own, (c.at.ensures own).0 (ap option_copied c.in-Some.is), sym c.number-number.ensures, not_any c.number-number.result c.args.places.now.keys (sym c.contains.ensures ∙ c.if-contains.false))
