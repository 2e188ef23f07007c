use Rattle.ghc_depend.proofs.Words.{◌≡◌, ◌≢◌, true, false, get_or, refl, sym, ap, ◌∙◌, subst, In, take_all, one_more_member, In_at, variables_asked, MakesVariable}
use Rattle.ghc_depend.proofs.OnePass.{HoldsAt}
use Rattle.ghc_depend.proofs.one_pass.names_from_one.Goals as goal

pub returns-then-is_made_at : goal.returns-then-is_made_at
returns-then-is_made_at c =
    let items = c.variables-x-items.result.now in
    let all = c.variables-x-items.ensures ∙ ap variables_asked c.act.ensures in
    let x = get_or items c.loop-x.x-index (record { step = 0; place = 0 }) in
    let there = In_at items c.loop-x.x-index (record { step = 0; place = 0 }) c.loop-x-test.true in
    let h = c.is_made_at.ensures.0 c.if-is_made_at.true in
    (λ _. (h.0, h.1, x, h.2, h.3, ((subst (In x) all there, h.4.0), h.4.1)), λ _. refl)

pub loop-x-preserved : goal.loop-x-preserved
loop-x-preserved c =
    one_more_member (λ x. ¬ HoldsAt c.args.records.now.slots c.args.places.now.keys (λ a. (x.step ≢ c.args.later.now.number) × MakesVariable a x)) c.variables-x-items.result.now c.loop-x.x-index (record { step = 0; place = 0 }) c.loop-x-test.true c.loop-x.invariant
    (λ h. let clash : true ≡ false = sym (c.is_made_at.ensures.1 h) ∙ c.if-is_made_at.false in cc)

pub returns : goal.returns
returns c =
    let items = c.variables-x-items.result.now in
    let all = c.variables-x-items.ensures ∙ ap variables_asked c.act.ensures in (
      λ e. absurd (let clash : false ≡ true = e in cc),
      λ w.
          let there = subst (In w.2) (sym (take_all c.loop-x.x-index items c.loop-x-test.false)) (subst (In w.2) (sym all) w.5.0.0) in
          absurd (c.loop-x.invariant w.2 there (w.0, w.1, w.3, w.4, (w.5.0.1, w.5.1))),
    )
