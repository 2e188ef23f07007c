use Rattle.ghc_depend.proofs.Words.{[], ◌∷◌, refl, ◌≡◌, List, sym, subst, arith, some_of, AreDistinct, Picks, Record, numbers, Follows, ap, option_copied, one_record, IsOfSteps}
use Rattle.ghc_depend.proofs.OnePass.{of_none, so_first, so_end}
use Rattle.ghc_depend.proofs.one_pass.consequences_by_pass.Goals as goal

pub unwrap-requires : goal.unwrap-requires
unwrap-requires c = let f = c.requires.there in some_of c.at.result f.0 ((c.at.ensures f.0).1 f.1)

pub loop-place-init : goal.loop-place-init
loop-place-init c =
    let ss = c.args.records.now.slots in
    let own = c.args.own in
    let distinct = subst (λ l. AreDistinct (numbers l)) c.len-count.ensures.slots c.len-count.ensures.distinct in
    let b = c.unwrap.result.now in
    let there = (c.at.ensures b).0 (ap option_copied c.unwrap.ensures) in
    let none = of_none ss c.new.result.keys c.new-2.result.keys c.new.ensures.empty c.new-2.ensures.empty in
    let one = c.in_ok-add_step.ensures ss [] there none in (
      omega arith,
      λ a at.
          let same : b ≡ a = one_record ss own own b a there at refl in
          so_first ss distinct own a at c.add_step.new.steps.places.keys c.add_step.new.steps.bound.keys c.new-found.result.items
          (subst (λ z. IsOfSteps ss (z ∷ []) c.add_step.new.steps.places.keys c.add_step.new.steps.bound.keys) same one) c.new-found.ensures.items,
    )

pub add_if_it_follows-requires : goal.add_if_it_follows-requires
add_if_it_follows-requires c = omega (arith, c.loop-place-test.true, c.places-end.ensures)

pub loop-place-preserved : goal.loop-place-preserved
loop-place-preserved c =
    let low = c.loop-place.invariant.0 in (
      omega (arith, low),
      λ a at. c.in_ok-add_if_it_follows.ensures c.args.own a at low (c.loop-place.invariant.1 a at),
    )

pub returns : goal.returns
returns c a at =
    let ss = c.args.records.now.slots in
    let distinct = subst (λ l. AreDistinct (numbers l)) c.len-count.ensures.slots c.len-count.ensures.distinct in
    subst (λ l. (found : List Record) × Picks (Follows l a) l found × (numbers found ≡ c.loop-place.found.items)) (sym c.len-count.ensures.slots)
    (so_end ss distinct c.args.own a at c.loop-place.place c.loop-place.steps.places.keys c.loop-place.steps.bound.keys c.loop-place.found.items (c.loop-place.invariant.1 a at) (omega (arith, c.loop-place-test.false, c.places-end.ensures)))
