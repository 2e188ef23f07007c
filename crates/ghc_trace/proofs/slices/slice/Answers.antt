use Rattle.ghc_trace.proofs.Words.{◌≡◌, ◌+◌, ◌++◌, ◌∷◌, [], length, sym, ap, ◌∙◌, subst, arith, option_copied, In, in_last, AreDistinct, numbers, held_in, some_of}
use Rattle.std.proofs.Common.{length-append}
use Rattle.ghc_trace.specs.Causes.{HasNumbered, IsSliceTold}
use Rattle.ghc_trace.proofs.Slicing.{IsSliced, slice_begin, slice_next, slice_fewer, slice_end, all_in_front, nothing_left}
use Rattle.ghc_trace.proofs.slices.slice.Goals as goal

pub loop-place-init : goal.loop-place-init
loop-place-init c =
    let ss = c.args.records.now.slots in
    let roots = c.args.roots.now in
    let new = c.add_numbered.new.places.keys in
    let distinct = subst (λ l. AreDistinct (numbers l)) c.len-count.ensures.slots c.len-count.ensures.distinct in
    subst (λ l. IsSliced ss roots new l) (sym c.new-found.ensures.items)
    (slice_begin ss distinct roots new (subst (λ old. HasNumbered ss roots old new) c.new-behind.ensures.empty c.in_ok-add_numbered.ensures))

pub unwrap-step-requires : goal.unwrap-step-requires
unwrap-step-requires c =
    let place = c.in-Some.place in
    let a = (c.loop-place.invariant.next place).0 (subst (In place) (sym c.in-Some.ensures.removal) (in_last c.pop_last.new.self.keys place)) in
    some_of c.at.result a.1 ((c.at.ensures a.1).1 a.2)

pub add_causes-requires : goal.add_causes-requires
add_causes-requires c = (c.at.ensures c.unwrap-step.result.now).0 (ap option_copied c.unwrap-step.ensures)

pub loop-place-smaller : goal.loop-place-smaller
loop-place-smaller c =
    let ss = c.args.records.now.slots in
    let distinct = subst (λ l. AreDistinct (numbers l)) c.len-count.ensures.slots c.len-count.ensures.distinct in
    let place = c.in-Some.place in
    let rest = c.pop_last.new.self.keys in
    let items = c.loop-place.found.items in
    let a = c.unwrap-step.result.now in
    let at = (c.at.ensures a).0 (ap option_copied c.unwrap-step.ensures) in
    let fewer = slice_fewer ss distinct c.args.roots.now c.loop-place.behind.keys items c.loop-place.invariant rest place c.in-Some.ensures.removal (all_in_front place rest c.in-Some.ensures.all_below) a at in
    let longer : length c.push.new.self.items ≡ length items + 1 = ap (λ l. length l) c.in_ok-push.ensures.items ∙ length-append items (c.number.result ∷ []) in
    let same : length c.args.records.now.held ≡ length (held_in ss) = ap (λ l. length l) c.len-count.ensures.slots in
    omega (arith, fewer, longer, same)

pub loop-place-preserved : goal.loop-place-preserved
loop-place-preserved c =
    let ss = c.args.records.now.slots in
    let roots = c.args.roots.now in
    let distinct = subst (λ l. AreDistinct (numbers l)) c.len-count.ensures.slots c.len-count.ensures.distinct in
    let place = c.in-Some.place in
    let rest = c.pop_last.new.self.keys in
    let items = c.loop-place.found.items in
    let a = c.unwrap-step.result.now in
    let at = (c.at.ensures a).0 (ap option_copied c.unwrap-step.ensures) in
    let new = c.add_causes.new.places.keys in
    let told : c.push.new.self.items ≡ items ++ a.number ∷ [] = c.in_ok-push.ensures.items ∙ ap (λ n. items ++ n ∷ []) c.number.ensures in
    subst (λ l. IsSliced ss roots new l) (sym told)
    (slice_next ss distinct roots c.loop-place.behind.keys items c.loop-place.invariant rest place c.in-Some.ensures.removal (all_in_front place rest c.in-Some.ensures.all_below) a at new c.in_ok-add_causes.ensures)

pub returns : goal.returns
returns c =
    let ss = c.args.records.now.slots in
    let distinct = subst (λ l. AreDistinct (numbers l)) c.len-count.ensures.slots c.len-count.ensures.distinct in
    let none = nothing_left c.loop-place.behind.keys c.in_default.ensures.variant.1 in
    subst (λ l. IsSliceTold l c.args.roots.now c.reverse.new.self.items) (sym c.len-count.ensures.slots)
    (subst (λ told. IsSliceTold (held_in ss) c.args.roots.now told) (sym c.reverse.ensures.items) (slice_end ss distinct c.args.roots.now c.loop-place.behind.keys c.loop-place.found.items c.loop-place.invariant none))
