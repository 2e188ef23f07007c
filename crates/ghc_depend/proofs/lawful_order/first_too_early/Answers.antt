use Rattle.ghc_depend.proofs.Words.{get_or, sym, ap, ◌∙◌, subst, arith, Some, slice_get-get_or, IsInTime, IsFirstNeeded}
use Rattle.ghc_depend.proofs.InTime.{time_next, all_in_time, is_too_early}
use Rattle.ghc_depend.proofs.lawful_order.first_too_early.Goals as goal

pub returns-in-Some-clause-found : goal.returns-in-Some-clause-found
returns-in-Some-clause-found c =
    let kept = c.args.records.now.held in
    let order = c.args.order.now in
    let place = c.loop-place.place in
    let f = c.in-Some.ensures.found in
    (f.0, f.1, f.2, f.3, is_too_early kept order place f.0 f.1 (slice_get-get_or order place 0 c.loop-place-test.true ∙ ap Some (sym f.3)) c.loop-place.invariant (subst (λ o. IsFirstNeeded kept o f.1 f.0) c.requires.places f.4))

pub loop-place-preserved : goal.loop-place-preserved
loop-place-preserved c =
    let kept = c.args.records.now.held in
    let order = c.args.order.now in
    let place = c.loop-place.place in
    time_next kept order place (get_or order place 0) (slice_get-get_or order place 0 c.loop-place-test.true) c.loop-place.invariant (subst (λ o. IsInTime kept o (get_or order place 0)) c.requires.places c.in_default.ensures.none)

pub returns-clause-none : goal.returns-clause-none
returns-clause-none c = all_in_time c.args.records.now.held c.args.order.now c.loop-place.place (omega (arith, c.loop-place-test.false)) c.loop-place.invariant
