use Rattle.ghc_trace.proofs.Words.{◌≡◌, Some, None, ap, sym, ◌∙◌, subst, inl, inr, arith, option_copied, In, StandsIn, stands_held}
use Rattle.std.proofs.lemmas.Bool.{cases_lt}
use Rattle.ghc_records.proofs.SlotLemmas.{held_stands}
use Rattle.ghc_trace.proofs.Slicing.{stands_within}
use Rattle.ghc_trace.proofs.parts.taker_by_search.Goals as goal

pub loop-place-init : goal.loop-place-init
loop-place-init c p r low at = absurd (omega (arith, low))

pub loop-place-preserved : goal.loop-place-preserved
loop-place-preserved c p r low at =
    elim (cases_lt p c.loop-place.place) [
      | inl less ↦ c.loop-place.invariant p r less at
      | inr high ↦
          let here : p ≡ c.loop-place.place = omega (arith, low, high) in
          λ e. let clash : None ≡ Some r = sym (ap option_copied c.in_default.is) ∙ (c.if_it_took.ensures r).1 ((c.at.ensures r).1 (subst (λ k. StandsIn c.args.records.now.slots k r) here at), e) in cc
    ]

pub returns-clause-none : goal.returns-clause-none
returns-clause-none c r i =
    let ss = c.args.records.now.slots in
    let there = held_stands ss r (subst (In r) c.len-count.ensures.slots i) in
    let within = stands_within ss there.0 r there.1 in
    c.loop-place.invariant there.0 r (omega (arith, within, c.loop-place-test.false, c.places-place-end.ensures)) there.1

pub returns-in-Some-clause-found : goal.returns-in-Some-clause-found
returns-in-Some-clause-found c =
    let step = c.in-Some.step.now in
    let took = (c.if_it_took.ensures step).0 (ap option_copied c.in-Some.is) in
    let stands = (c.at.ensures step).0 took.0 in
    (subst (In step) (sym c.len-count.ensures.slots) (stands_held c.args.records.now.slots c.loop-place.place step stands), took.1)
