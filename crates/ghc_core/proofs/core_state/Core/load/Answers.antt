use Rattle.ghc_core.proofs.Words.{◌≡◌, ℕ, ◌+◌, ◌<◌, List, [], length, get_or, slice_get, refl, ap, subst, ◌∙◌, inr, arith, Some, slice_get_read, loaded_opening, Opens, Meter, Step}
use Rattle.ghc_core.proofs.Loading.{loaded_next, nothing_loaded, own_step, own_goal, one_more_loaded, stopped_at, all_loaded}
use Rattle.ghc_core.proofs.core_state.Core.load.Goals as goal

-- the step at the place that the loop is at
at_place : (steps all : List Step) (i : ℕ) (s : Step) → steps ≡ all → i < length steps → s ≡ get_or steps i s → slice_get all i ≡ Some s
at_place steps all i s same less is = subst (λ ss. slice_get ss i ≡ Some s) same (slice_get_read steps (length steps) i s refl less is)

pub loop-index-init : goal.loop-index-init
loop-index-init c = record {
  loaded = nothing_loaded c.args.program c.args.query.goals c.args.query.variables c.args.history.now c.in_ok-core.core.world (subst (λ n. Opens (loaded_opening c.args.program c.args.query.goals c.args.query.variables (record { steps = []; next = n })) c.in_ok-core.core.world) c.next.ensures c.in_ok-core.ensures.opens);
  notes = c.in_ok-core.ensures.notes;
  firings = c.in_ok-core.ensures.meter.0;
  tries = c.in_ok-core.ensures.meter.1;
}

pub load_step-requires-clause-own : goal.load_step-requires-clause-own
load_step-requires-clause-own c r possible =
    let at = at_place _ _ _ _ c.steps-steps.ensures.steps c.loop-index-test.true c.index-steps-index.is in
    own_step _ _ _ _ _ _ c.loop-index.invariant.loaded _ at r c.requires.history possible

pub load_step-requires-clause-of_goal : goal.load_step-requires-clause-of_goal
load_step-requires-clause-of_goal c =
    let at = at_place _ _ _ _ c.steps-steps.ensures.steps c.loop-index-test.true c.index-steps-index.is in
    own_goal _ _ _ _ _ _ c.loop-index.invariant.loaded _ at c.requires.history

pub first-requires : goal.first-requires
first-requires c =
    let same : length c.steps-steps.result.now ≡ length c.args.history.now.steps = ap length c.steps-steps.ensures.steps in
    omega (arith, c.loop-index-test.true, same)

pub load_step-requires-clause-loaded : goal.load_step-requires-clause-loaded
load_step-requires-clause-loaded c =
    let at = at_place _ _ _ _ c.steps-steps.ensures.steps c.loop-index-test.true c.index-steps-index.is in
    loaded_next _ _ _ _ _ _ c.loop-index.invariant.loaded _ at c.in_ok-loaded.loaded c.in_ok-loaded.ensures

pub returns-in-Ok-Refused-clause-answer : goal.returns-in-Ok-Refused-clause-answer
returns-in-Ok-Refused-clause-answer c =
    let at = at_place _ _ _ _ c.steps-steps.ensures.steps c.loop-index-test.true c.index-steps-index.is in (
      tt,
      inr (stopped_at _ _ _ _ _ _ c.loop-index.invariant.loaded _ at (c.loop-index.index + 3)
          (c.in-Ok-Refused.ensures.refused c.in-Ok-Refused.field-0-is) refl),
    )

pub loop-index-preserved : goal.loop-index-preserved
loop-index-preserved c =
    let before = c.loop-index.invariant in
    let yes = c.in-Ok-CarriedOut.field-0-is in
    let taken = c.in-Ok-CarriedOut.ensures.carried yes in
    let at = at_place _ _ _ _ c.steps-steps.ensures.steps c.loop-index-test.true c.index-steps-index.is in
    let few = c.requires.history.few in
    let more = c.loop-index-test.true in
    let same : length c.steps-steps.result.now ≡ length c.args.history.now.steps = ap length c.steps-steps.ensures.steps in
    record {
      loaded = one_more_loaded _ _ _ _ _ _ before.loaded _ at c.load_step.new.self.world taken.0 taken.1 taken.2 (c.in-Ok-CarriedOut.ensures.opens yes);
      notes = c.in-Ok-CarriedOut.ensures.notes before.notes yes;
      firings = ap (λ (m : Meter). m.firings) (c.in-Ok-CarriedOut.ensures.meter yes) ∙ omega (arith, few, more, same);
      tries = ap (λ m. m.tries) (c.in-Ok-CarriedOut.ensures.meter yes) ∙ before.tries;
    }

pub returns-clause-answer : goal.returns-clause-answer
returns-clause-answer c =
    let most = c.loop-index-test.false in
    let same : length c.steps-steps.result.now ≡ length c.args.history.now.steps = ap length c.steps-steps.ensures.steps in
    (all_loaded c.args.program c.args.query.goals c.args.query.variables c.args.history.now c.loop-index.index c.loop-index.core.world c.loop-index.invariant.loaded (omega (arith, most, same)), tt)
