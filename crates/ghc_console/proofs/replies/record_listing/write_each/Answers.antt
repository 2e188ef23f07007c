use Rattle.ghc_console.proofs.CitedWords.{err_from_is_err_and, ◌∙◌, arith, refl, subst, sym, form_text}
use Rattle.ghc_console.proofs.ListedLines.{Wrote, WroteFront, lines_of_each, slot_broken, slot_on, slots_done, slots_start}
use Rattle.ghc_console.proofs.WriteLoop.{reads_on, reads_start}
use Rattle.ghc_console.proofs.replies.record_listing.write_each.Goals as goal

pub loop-place-init : goal.loop-place-init
loop-place-init g c = (slots_start (form_text c.args.form) c.args.records.now.slots _, reads_start _, refl)

pub loop-place-preserved : goal.loop-place-preserved
loop-place-preserved g c = (
  slot_on (form_text c.args.form) c.args.records.now.slots c.loop-place.place _ _ _ c.loop-place.invariant.0 c.in_ok-write_record_at.ensures.told,
  reads_on _ _ _ c.loop-place.invariant.1 c.in_ok-write_record_at.ensures.writes.reads,
  c.in_ok-write_record_at.ensures.writes.count ∙ c.loop-place.invariant.2,
)

pub returns-in_err-write_record_at-clause-told : goal.returns-in_err-write_record_at-clause-told
returns-in_err-write_record_at-clause-told g c =
    let d = g.D.Device in
    rw (err_from_is_err_and c.from_residual.result c.from_residual.ensures.1).1 (subst (λ rs. WroteFront (lines_of_each (form_text c.args.form) rs) (d.written c.args.device.now) (d.written c.write_record_at.new.device)) (sym c.len-count.ensures.slots)
    (slot_broken (form_text c.args.form) c.args.records.now.slots c.loop-place.place _ _ _ c.loop-place.invariant.0 c.in_err-write_record_at.ensures.told))

pub returns-clause-told : goal.returns-clause-told
returns-clause-told g c =
    let d = g.D.Device in
    let ss = c.args.records.now.slots in
    subst (λ rs. Wrote (lines_of_each (form_text c.args.form) rs) (d.written c.args.device.now) (d.written c.loop-place.device)) (sym c.len-count.ensures.slots)
    (slots_done (form_text c.args.form) ss c.loop-place.place _ _ (omega (arith, c.loop-place-test.false, c.places-place-end.ensures)) c.loop-place.invariant.0)
