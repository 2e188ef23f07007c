use Rattle.ghc_records.specs.inner.EntryCode.{entry_of}
use Rattle.ghc_console.proofs.CitedWords.{err_from_is_err_and, ◌≡◌, ◌<◌, ◌∙◌, ap, arith, drop, length, refl, sym, None, Some, option_map, slice_get, entry_text}
use Rattle.ghc_records.proofs.ChronicleWritten.{there}
use Rattle.ghc_core.proofs.SavedSteps.{drop_at}
use Rattle.ghc_console.proofs.ListedLines.{lines_broken, lines_done, lines_of_each, lines_on}
use Rattle.ghc_console.proofs.RunLines.{going_start}
use Rattle.ghc_console.proofs.WriteLoop.{reads_on, reads_start}
use Rattle.ghc_console.proofs.replies.session_listing.write_each_entry.Goals as goal

pub loop-place-init : goal.loop-place-init
loop-place-init g c = (going_start (lines_of_each entry_text (drop c.args.first c.args.journal.now.held)) _, reads_start _, refl)

pub unreachable-requires : goal.unreachable-requires
unreachable-requires g c =
    let held = c.args.journal.now.held in
    let i = c.loop-place.place in
    let low : i < length held = omega (arith, c.loop-place-test.true, c.len-place-end.ensures.length) in
    let t = there held i low in
    let clash : None ≡ Some t.0 = ap (option_map (λ e. entry_of e.now)) (sym c.in_default.is) ∙ c.at.ensures ∙ t.1 in
    cc

pub loop-place-preserved : goal.loop-place-preserved
loop-place-preserved g c =
    let held = c.args.journal.now.held in
    let i = c.loop-place.place in
    let e = entry_of c.in-Some.entry.now in
    let stands : slice_get held i ≡ Some e = sym c.at.ensures ∙ ap (option_map (λ e. entry_of e.now)) c.in-Some.is in
    let all = lines_of_each entry_text (drop c.args.first held) in (
      lines_on entry_text all held i e _ _ _ (drop_at held i e stands) c.loop-place.invariant.0 c.in_ok-write_entry_line.ensures.told,
      reads_on _ _ _ c.loop-place.invariant.1 c.in_ok-write_entry_line.ensures.writes.reads,
      c.in_ok-write_entry_line.ensures.writes.count ∙ c.loop-place.invariant.2,
    )

pub returns-in_err-write_entry_line-clause-told : goal.returns-in_err-write_entry_line-clause-told
returns-in_err-write_entry_line-clause-told g c =
    let held = c.args.journal.now.held in
    let i = c.loop-place.place in
    let e = entry_of c.in-Some.entry.now in
    let stands : slice_get held i ≡ Some e = sym c.at.ensures ∙ ap (option_map (λ e. entry_of e.now)) c.in-Some.is in
    let all = lines_of_each entry_text (drop c.args.first held) in
    rw (err_from_is_err_and c.from_residual.result c.from_residual.ensures.1).1 (lines_broken entry_text all held i e _ _ _ (drop_at held i e stands) c.loop-place.invariant.0 c.in_err-write_entry_line.ensures.told)

pub returns-clause-told : goal.returns-clause-told
returns-clause-told g c =
    let held = c.args.journal.now.held in
    lines_done entry_text (lines_of_each entry_text (drop c.args.first held)) held c.loop-place.place _ _ (omega (arith, c.loop-place-test.false, c.len-place-end.ensures.length)) c.loop-place.invariant.0
