use Rattle.ghc_core.proofs.Words.{sym, ap, ◌∙◌, map, arith, step_of}
use Rattle.ghc_core.proofs.SavedSteps.{slot_on, none_yet, all_found}
use Rattle.ghc_core.proofs.saved.saving.steps_of.Goals as goal

pub loop-place-init : goal.loop-place-init
loop-place-init c = none_yet step_of c.args.records.now.slots _ (c.in_ok-reserve_exact.ensures.items ∙ c.new-steps.ensures.items)

pub loop-place-preserved : goal.loop-place-preserved
loop-place-preserved c = slot_on step_of c.args.records.now.slots c.loop-place.place c.loop-place.steps.items c.push_at.new.steps.items c.in_ok-push_at.ensures c.loop-place.invariant

pub returns : goal.returns
returns c =
    all_found step_of c.args.records.now.slots c.loop-place.place c.loop-place.steps.items (omega (arith, c.loop-place-test.false, c.places-place-end.ensures)) c.loop-place.invariant ∙ ap (map step_of) (sym c.len-count.ensures.slots)
