use Rattle.ghc_depend.proofs.Words.{get_or, subst, arith, slice_get-get_or, IsNoFurther}
use Rattle.ghc_depend.proofs.InTime.{none_in_front_more, none_in_front_all}
use Rattle.ghc_depend.proofs.lawful_order.count_in_time.Goals as goal

pub loop-place-preserved : goal.loop-place-preserved
loop-place-preserved c =
    let kept = c.args.records.now.held in
    let order = c.args.order.now in
    let place = c.loop-place.place in
    none_in_front_more kept order place (get_or order place 0) c.loop-place.in_time c.first_user-in_time.result (slice_get-get_or order place 0 c.loop-place-test.true) c.loop-place.invariant c.first_user-in_time.ensures.within
    (λ n d. subst (λ o. IsNoFurther o place n c.first_user-in_time.result) c.requires.places (c.first_user-in_time.ensures.users n d))

pub returns : goal.returns
returns c = none_in_front_all c.args.records.now.held c.args.order.now c.requires.distinct c.loop-place.place c.loop-place.in_time (omega (arith, c.loop-place-test.false)) c.loop-place.invariant
