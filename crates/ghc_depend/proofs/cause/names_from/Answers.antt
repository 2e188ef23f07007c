use Rattle.ghc_depend.proofs.Words.{◌≡◌, ◌≢◌, true, false, refl, sym, ap, ◌∙◌, subst, arith, take_all, In, one_more_member, In_at, variables_asked, MakesVariable}
use Rattle.ghc_depend.proofs.cause.names_from.Goals as goal

pub returns-then-names : goal.returns-then-names
returns-then-names c =
    let items = c.variables-x-items.result.now in
    let all = c.variables-x-items.ensures ∙ ap variables_asked c.act.ensures in
    let there = In_at items c.loop-x.x-index (record { step = 0; place = 0 }) c.loop-x-test.true in
    let h = c.names.ensures.0 c.if-names.true in
    (λ _. (_, ((subst (In _) all there, h.0), h.1)), λ _. refl)

pub loop-x-preserved : goal.loop-x-preserved
loop-x-preserved c =
    one_more_member (λ x. ¬ ((x.step ≢ c.args.later.now.number) × MakesVariable c.args.earlier.now x)) c.variables-x-items.result.now c.loop-x.x-index (record { step = 0; place = 0 }) c.loop-x-test.true c.loop-x.invariant
    (λ h. let clash : true ≡ false = sym (c.names.ensures.1 h) ∙ c.if-names.false in cc)

pub returns : goal.returns
returns c = grind (arith, take_all)
