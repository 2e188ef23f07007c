use Rattle.ghc_core.proofs.Words.{sym, ap, ◌∙◌, arith, numbers, Core}
use Rattle.ghc_core.proofs.SavedSteps.{slot_on, none_yet, all_found}
use Rattle.ghc_core.proofs.core_state.Core.kept_numbers.Goals as goal

pub loop-place-init : goal.loop-place-init
loop-place-init c = none_yet (λ r. r.number) c.self.inside.records.slots _ (c.in_ok-reserve_exact.ensures.items ∙ c.new-kept.ensures.items)

pub loop-place-preserved : goal.loop-place-preserved
loop-place-preserved c = slot_on (λ r. r.number) c.self.inside.records.slots c.loop-place.place c.loop-place.kept.items c.push_number_at.new.numbers.items c.in_ok-push_number_at.ensures c.loop-place.invariant

pub returns : goal.returns
returns c =
    all_found (λ r. r.number) c.self.inside.records.slots c.loop-place.place c.loop-place.kept.items (omega (arith, c.loop-place-test.false, c.places-place-end.ensures)) c.loop-place.invariant
    ∙ ap numbers (sym c.len-count.ensures.slots) ∙ ap (λ (x : Core). numbers x.world.kept) c.self.view_is
