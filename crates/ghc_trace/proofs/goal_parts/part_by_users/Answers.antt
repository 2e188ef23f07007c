use Rattle.ghc_trace.proofs.Words.{◌≡◌, ◌+◌, [], ◌<◌, refl, length, List, sym, ap, subst, inl, option_copied, AreDistinct, In, Record, Replays, numbers, some_of, all_behind, arith, nat_tests}
use Rattle.ghc_trace.specs.inner.PartsCode.{IsPartOf, IsPutIf, IsTakerIn, NamesInside}
use Rattle.ghc_trace.proofs.PartUsers.{ahead_first, all_found, fewer_left, left_from, next_ahead, next_behind, next_part, so_far_first, taker_kept}
use Rattle.ghc_trace.proofs.Slicing.{nothing_left, stands_within}
use Rattle.ghc_trace.proofs.goal_parts.part_by_users.Goals as goal

pub place_alone-requires : goal.place_alone-requires
place_alone-requires c r e = taker_kept c.args.records.now.held c.args.goal (option_copied c.args.taker) c.requires r e

pub loop-place-init : goal.loop-place-init
loop-place-init c =
    let ss = c.args.records.now.slots in
    let g = c.args.goal in
    let distinct = subst (λ l. AreDistinct (numbers l)) c.len-count.ensures.slots c.len-count.ensures.distinct in
    let taker = option_copied c.args.taker in
    let took = subst (λ l. IsTakerIn l g taker) c.len-count.ensures.slots c.requires in
    let none : c.new-steps.result.keys ≡ [] = c.new-steps.ensures.empty in (
      0,
      ahead_first ss distinct taker c.in_ok-ahead.ahead.keys c.in_ok-ahead.ensures c.new-steps.result.keys none,
      λ P query t asked replay. so_far_first ss distinct taker g P query t asked replay took c.new-steps.result.keys c.new-asks.result.items none c.new-asks.ensures.items,
    )

pub unwrap-step-requires : goal.unwrap-step-requires
unwrap-step-requires c =
    let place = c.in-Some.place in
    let b = (c.loop-place.invariant.1 place).0 (subst (In place) (sym c.in-Some.ensures.removal) (inl refl)) in
    some_of c.at.result b.1 ((c.at.ensures b.1).1 b.2)

pub loop-place-smaller : goal.loop-place-smaller
loop-place-smaller c =
    let ss = c.args.records.now.slots in
    let distinct = subst (λ l. AreDistinct (numbers l)) c.len-count.ensures.slots c.len-count.ensures.distinct in
    let taker = option_copied c.args.taker in
    let place = c.in-Some.place in
    let rest = c.pop_first.new.self.keys in
    let a = c.unwrap-step.result.now in
    let at = (c.at.ensures a).0 (ap option_copied c.unwrap-step.ensures) in
    let inv = c.loop-place.invariant in
    let next = c.take_in.new.ahead.keys in
    let behind = next_behind ss distinct taker inv.0 c.loop-place.steps.keys c.loop-place.ahead.keys rest inv.1 place c.in-Some.ensures.removal (all_behind place rest c.in-Some.ensures.all_above)
    c.args.goal a at c.take_in.new.part.keys next (c.in_ok-told.ensures.told (grind (arith, nat_tests, c.if-not-told.false))) in
    subst (λ l. left_from (length ss) next < left_from (length ss) l) (sym c.in-Some.ensures.removal) (fewer_left (length ss) place rest next (stands_within ss place a at) behind)

pub loop-place-preserved : goal.loop-place-preserved
loop-place-preserved c =
    let ss = c.args.records.now.slots in
    let g = c.args.goal in
    let distinct = subst (λ l. AreDistinct (numbers l)) c.len-count.ensures.slots c.len-count.ensures.distinct in
    let taker = option_copied c.args.taker in
    let took = subst (λ l. IsTakerIn l g taker) c.len-count.ensures.slots c.requires in
    let place = c.in-Some.place in
    let rest = c.pop_first.new.self.keys in
    let steps = c.loop-place.steps.keys in
    let ahead = c.loop-place.ahead.keys in
    let a = c.unwrap-step.result.now in
    let at = (c.at.ensures a).0 (ap option_copied c.unwrap-step.ensures) in
    let inv = c.loop-place.invariant in
    let new = c.take_in.new.part.keys in
    let next = c.take_in.new.ahead.keys in
    let now = c.add_ask.new.asks.items in
    let first = c.in-Some.ensures.removal in
    let behind = all_behind place rest c.in-Some.ensures.all_above in
    let taken = c.in_ok-told.ensures.told (grind (arith, nat_tests, c.if-not-told.false)) in
    let put = subst (λ (l : List Record). IsPutIf (NamesInside l steps a) a.number c.loop-place.asks.items now) c.len-count.ensures.slots c.in_ok-add_ask.ensures in (
      place + 1,
      next_ahead ss distinct taker inv.0 steps ahead rest inv.1 place first behind g a at new next taken,
      λ P query t asked replay. next_part ss distinct taker g P query t asked replay took inv.0 steps c.loop-place.asks.items ahead rest inv.1 place first behind (inv.2 P query t asked replay) a at new now next put taken,
    )

pub returns-clause-found : goal.returns-clause-found
returns-clause-found c P query t asked replay =
    let ss = c.args.records.now.slots in
    let g = c.args.goal in
    let is = c.len-count.ensures.slots in
    let distinct = subst (λ l. AreDistinct (numbers l)) is c.len-count.ensures.distinct in
    let taker = option_copied c.args.taker in
    let took = subst (λ l. IsTakerIn l g taker) is c.requires in
    let again = subst (λ (l : List Record). Replays P query l t) is replay in
    let inv = c.loop-place.invariant in
    subst (λ (l : List Record). IsPartOf l g c.loop-place.steps.keys c.loop-place.asks.items) (sym is)
    (all_found ss distinct taker g P query t asked again took inv.0 c.loop-place.steps.keys c.loop-place.asks.items c.loop-place.ahead.keys inv.1 (nothing_left c.loop-place.ahead.keys c.in_default.ensures.variant.1) (inv.2 P query t asked again))
