use Rattle.ghc_depend.proofs.Words.{◌≡◌, true, false, sym, ap, ◌∙◌, subst, refl, Some, None, option_copied, Record, one_record, Uses, StandsBehind}
use Rattle.ghc_depend.proofs.lawful_order.needed_at.Goals.{else-stands_behind-via-then-stands_behind+else-uses, else-stands_behind-via-else-stands_behind}
use Rattle.ghc_depend.proofs.lawful_order.needed_at.Goals as goal

pub returns-in_default-clause-none : goal.returns-in_default-clause-none
returns-in_default-clause-none c a stands = let clash : None ≡ Some a = ap option_copied (sym c.in_default.is) ∙ (c.at.ensures a).1 stands in cc

pub returns-then-uses-clause-found : goal.returns-then-uses-clause-found
returns-then-uses-clause-found c =
    let own = c.in-Some.earlier.now in (
      own,
      (c.at.ensures own).0 (ap option_copied c.in-Some.is),
      sym c.number-then-uses.ensures,
      subst (StandsBehind c.args.places.now.keys c.args.place) (c.number.ensures ∙ sym c.number-then-uses.ensures) (c.stands_behind.ensures.0 c.if-stands_behind.true),
      c.uses.ensures.0 c.if-uses.true,
    )

pub returns-clause-none : goal.returns-clause-none
returns-clause-none c a stands both =
    let keys = c.args.places.now.keys in
    let own = c.in-Some.earlier.now in
    let same : own ≡ a = one_record c.args.records.now.slots c.args.slot c.args.slot own a ((c.at.ensures own).0 (ap option_copied c.in-Some.is)) stands refl in
    elim c.else-stands_behind.branch [
      | else-stands_behind-via-then-stands_behind+else-uses w ↦ let clash : true ≡ false = sym (w.uses.ensures.1 (subst (Uses c.args.later.now) (sym same) both.1)) ∙ w.if-uses.false in cc
      | else-stands_behind-via-else-stands_behind w ↦
          let behind = subst (StandsBehind keys c.args.place) (ap (λ (z : Record). z.number) (sym same) ∙ sym c.number.ensures) both.0 in
          let clash : true ≡ false = sym (c.stands_behind.ensures.1 behind) ∙ w.if-stands_behind.false in cc
    ]
