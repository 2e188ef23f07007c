use Rattle.ghc_depend.proofs.Words.{◌≡◌, true, false, sym, ap, ◌∙◌, subst, refl, arith, Some, None, option_copied, In, AreDistinct, Record, numbers, held_in, StepDependsOn, one_record, some_of}
use Rattle.ghc_depend.proofs.Using.{user_is, user_behind, none_uses}
use Rattle.ghc_depend.proofs.users.user_at.Goals.{else-own-place-via-then-own-place+else-uses, else-own-place-via-else-own-place}
use Rattle.ghc_depend.proofs.users.user_at.Goals as goal

pub returns-in_err-own-clause-none : goal.returns-in_err-own-clause-none
returns-in_err-own-clause-none c = rw c.from_residual.ensures (
    none_uses c.args.records.now.slots c.args.number (subst (λ l. (r : Record) → In r l → ¬ (r.number ≡ c.args.number)) c.len-count.ensures.slots c.in_err-own.ensures.none) c.args.place)

pub returns-in_err-later-clause-none : goal.returns-in_err-later-clause-none
returns-in_err-later-clause-none c = rw c.from_residual-in_err-later.ensures (λ u. let clash : None ≡ Some u.0 = sym (ap option_copied c.in_err-later.was) ∙ (c.at.ensures u.0).1 u.1 in cc)

pub unwrap-requires : goal.unwrap-requires
unwrap-requires c = let f = c.in_ok-own.ensures.found in some_of c.at-then-own-place.result f.0 ((c.at-then-own-place.ensures f.0).1 f.1)

pub returns-then-uses-clause-some : goal.returns-then-uses-clause-some
returns-then-uses-clause-some c =
    let ss = c.args.records.now.slots in
    let distinct = subst (λ l. AreDistinct (numbers l)) c.len-count.ensures.slots c.len-count.ensures.distinct in
    let own = c.in_ok-own.own in
    let f = c.in_ok-own.ensures.found in
    let a = c.unwrap.result.now in
    let here = (c.at-then-own-place.ensures a).0 (ap option_copied c.unwrap.ensures) in
    let same : a ≡ f.0 = one_record ss own own a f.0 here f.1 refl in
    let b = c.in_ok-later.later.now in
    let there = (c.at.ensures b).0 (ap option_copied c.in_ok-later.was) in
    let user = user_is ss distinct own c.args.number a here (ap (λ (z : Record). z.number) same ∙ f.2) c.args.place b there (omega (arith, c.if-own-place.true)) (c.uses.ensures.0 c.if-uses.true) in
    (b, there, sym c.number.ensures, subst (λ k. StepDependsOn (held_in ss) k c.args.number) (sym c.number.ensures) user)

pub returns-clause-none : goal.returns-clause-none
returns-clause-none c u =
    let ss = c.args.records.now.slots in
    let distinct = subst (λ l. AreDistinct (numbers l)) c.len-count.ensures.slots c.len-count.ensures.distinct in
    let own = c.in_ok-own.own in
    let f = c.in_ok-own.ensures.found in
    let b = c.in_ok-later.later.now in
    let there = (c.at.ensures b).0 (ap option_copied c.in_ok-later.was) in
    let same : b ≡ u.0 = one_record ss c.args.place c.args.place b u.0 there u.1 refl in
    let behind = user_behind ss distinct own c.args.number f.0 f.1 f.2 c.args.place b there (subst (λ (z : Record). StepDependsOn (held_in ss) z.number c.args.number) (sym same) u.2) in
    elim c.else-own-place.branch [
      | else-own-place-via-then-own-place+else-uses w ↦
          let a = w.unwrap.result.now in
          let one : a ≡ f.0 = one_record ss own own a f.0 ((w.at-then-own-place.ensures a).0 (ap option_copied w.unwrap.ensures)) f.1 refl in
          let clash : true ≡ false = sym (w.uses.ensures.1 (rw one behind.1)) ∙ w.if-uses.false in cc
      | else-own-place-via-else-own-place w ↦ let low = behind.0 in absurd (omega (arith, low, w.if-own-place.false))
    ]
