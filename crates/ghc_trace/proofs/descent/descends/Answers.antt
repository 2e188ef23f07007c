use Rattle.ghc_trace.proofs.Words.{◌≡◌, ◌<◌, true, false, refl, sym, ◌∙◌, subst, In, Descends, itself}
use Rattle.ghc_trace.proofs.WayUp.{far, unmade, of_none, of_maker, nearer, one_goal, other_goal}
use Rattle.ghc_trace.proofs.descent.descends.Goals as goal

pub returns-in_default : goal.returns-in_default
returns-in_default c =
    let kept = c.args.core.now.world.kept in
    let other = other_goal c.loop-records.current c.args.root c.ne.result c.ne.ensures c.loop-records-test.true in (
      λ h. absurd (let clash : false ≡ true = h in cc),
      λ d. absurd (unmade kept c.args.root c.loop-records.current other (λ r i. c.in_default.ensures.none r (subst (In r) (sym c.records-records.ensures) i)) (c.loop-records.invariant.1 d)),
    )

pub returns-in_default-goal : goal.returns-in_default-goal
returns-in_default-goal c =
    let kept = c.args.core.now.world.kept in
    let other = other_goal c.loop-records.current c.args.root c.ne.result c.ne.ensures c.loop-records-test.true in
    let maker = c.in-Some.maker.now in
    let found = c.in-Some.ensures.found in (
      λ h. absurd (let clash : false ≡ true = h in cc),
      λ d. absurd (of_none kept c.args.root c.loop-records.current other c.stands.ensures.orderly.kept_once maker (subst (In maker) c.records-records.ensures found.0) found.1
          (λ h e. c.in_default-goal.not-Some h (c.goal.ensures ∙ e)) (c.loop-records.invariant.1 d)),
    )

pub loop-records-smaller : goal.loop-records-smaller
loop-records-smaller c =
    let w = c.args.core.now.world in
    let maker = c.in-Some.maker.now in
    let found = c.in-Some.ensures.found in
    let less : far w.kept c.in-Some-goal.taken.step < far w.kept c.loop-records.current.step =
    nearer w.opening.program w.opening.query w.kept w.state c.stands.ensures.replay maker c.loop-records.current c.in-Some-goal.taken (subst (In maker) c.records-records.ensures found.0) found.1
    (sym c.goal.ensures ∙ c.in-Some-goal.is) in
    less

pub loop-records-preserved : goal.loop-records-preserved
loop-records-preserved c =
    let kept = c.args.core.now.world.kept in
    let other = other_goal c.loop-records.current c.args.root c.ne.result c.ne.ensures c.loop-records-test.true in
    let maker = c.in-Some.maker.now in
    let found = c.in-Some.ensures.found in
    let both = of_maker kept c.args.root c.loop-records.current other c.stands.ensures.orderly.kept_once maker (subst (In maker) c.records-records.ensures found.0) found.1 c.in-Some-goal.taken (sym c.goal.ensures ∙ c.in-Some-goal.is) in
    (λ d. c.loop-records.invariant.0 (both.0 d), λ d. both.1 (c.loop-records.invariant.1 d))

pub returns : goal.returns
returns c =
    let is = one_goal c.loop-records.current c.args.root c.ne.result c.ne.ensures c.loop-records-test.false in
    (λ _. c.loop-records.invariant.0 (subst (Descends c.args.core.now.world.kept c.args.root) (sym is) itself), λ _. refl)
