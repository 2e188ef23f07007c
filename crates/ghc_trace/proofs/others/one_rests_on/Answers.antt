use Rattle.ghc_trace.proofs.Words.{◌≡◌, ◌↔◌, nat_eq, true, false, IsTrue, [], sym, ap, subst, option_copied, In, in_last, AreDistinct, numbers, some_of, Binds}
use Rattle.ghc_trace.specs.Causes.{HasInFront}
use Rattle.ghc_trace.specs.inner.OtherClausesCode.{OneRestsOn}
use Rattle.ghc_trace.proofs.CausePlaces.{OfOne}
use Rattle.ghc_trace.proofs.Resting.{sought_begin, sought_next, top_less, stopped, none_left}
use Rattle.ghc_trace.proofs.Slicing.{all_in_front, nothing_left}
use Rattle.ghc_trace.proofs.others.one_rests_on.Goals as goal

pub loop-last-init : goal.loop-last-init
loop-last-init c =
    let ss = c.args.records.now.slots in
    let xs = c.args.xs.now in
    let new = c.add_binders.new.places.keys in
    let distinct = subst (λ l. AreDistinct (numbers l)) c.len-count.ensures.slots c.len-count.ensures.distinct in
    sought_begin ss distinct c.args.place xs new
    (subst (λ n. HasInFront ss n (OfOne ss n Binds xs) [] new) c.places.ensures (subst (λ old. HasInFront ss c.places.result (OfOne ss c.places.result Binds xs) old new) c.new-behind.ensures.empty c.in_ok-add_binders.ensures))

pub unwrap-step-requires : goal.unwrap-step-requires
unwrap-step-requires c =
    let last = c.in-Some.last in
    let a = c.loop-last.invariant.filled last (subst (In last) (sym c.in-Some.ensures.removal) (in_last c.pop_last.new.self.keys last)) in
    some_of c.at.result a.0 ((c.at.ensures a.0).1 a.1)

pub add_causes-requires : goal.add_causes-requires
add_causes-requires c = (c.at.ensures c.unwrap-step.result.now).0 (ap option_copied c.unwrap-step.ensures)

pub loop-last-smaller : goal.loop-last-smaller
loop-last-smaller c =
    let ss = c.args.records.now.slots in
    let distinct = subst (λ l. AreDistinct (numbers l)) c.len-count.ensures.slots c.len-count.ensures.distinct in
    let last = c.in-Some.last in
    let rest = c.pop_last.new.self.keys in
    let a = c.unwrap-step.result.now in
    let at = (c.at.ensures a).0 (ap option_copied c.unwrap-step.ensures) in
    top_less ss distinct c.args.place c.args.xs.now rest last c.loop-last.behind.keys c.loop-last.invariant c.in-Some.ensures.removal (all_in_front last rest c.in-Some.ensures.all_below) a at c.if-last-place.false
    c.add_causes.new.places.keys c.in_ok-add_causes.ensures

pub loop-last-preserved : goal.loop-last-preserved
loop-last-preserved c =
    let ss = c.args.records.now.slots in
    let distinct = subst (λ l. AreDistinct (numbers l)) c.len-count.ensures.slots c.len-count.ensures.distinct in
    let last = c.in-Some.last in
    let rest = c.pop_last.new.self.keys in
    let a = c.unwrap-step.result.now in
    let at = (c.at.ensures a).0 (ap option_copied c.unwrap-step.ensures) in
    sought_next ss distinct c.args.place c.args.xs.now rest last c.loop-last.behind.keys c.loop-last.invariant c.in-Some.ensures.removal (all_in_front last rest c.in-Some.ensures.all_below) a at c.if-last-place.false
    c.add_causes.new.places.keys c.in_ok-add_causes.ensures

pub returns-then-last-place : goal.returns-then-last-place
returns-then-last-place c r at =
    let ss = c.args.records.now.slots in
    let held = c.len-count.ensures.slots in
    let distinct = subst (λ l. AreDistinct (numbers l)) held c.len-count.ensures.distinct in
    let last = c.in-Some.last in
    let place = c.args.place in
    let rest = c.pop_last.new.self.keys in
    let below = all_in_front last rest c.in-Some.ensures.all_below in
    subst (λ l. IsTrue (nat_eq last place) ↔ OneRestsOn l r c.args.xs.now) (sym held)
    (stopped ss distinct place c.args.xs.now rest last c.loop-last.behind.keys c.loop-last.invariant c.in-Some.ensures.removal below c.if-last-place.true r at)

pub returns : goal.returns
returns c r at =
    let ss = c.args.records.now.slots in
    let held = c.len-count.ensures.slots in
    let distinct = subst (λ l. AreDistinct (numbers l)) held c.len-count.ensures.distinct in
    let none = nothing_left c.loop-last.behind.keys c.in_default.ensures.variant.1 in
    subst (λ l. IsTrue false ↔ OneRestsOn l r c.args.xs.now) (sym held)
    (λ h. absurd (let clash : false ≡ true = h in cc), λ o. absurd (none_left ss distinct c.args.place c.args.xs.now c.loop-last.behind.keys c.loop-last.invariant none r at o))
