use Rattle.ghc_records.proofs.ChronicleWritten.{here}
use Rattle.ghc_console.proofs.CitedWords.{err_from_is_err_and, ◌∙◌, arith, lined, refl, chronicle_predicate_text}
use Rattle.ghc_console.proofs.ListedLines.{lines_broken, lines_done, lines_of_each, lines_on}
use Rattle.ghc_console.proofs.RunLines.{going_start}
use Rattle.ghc_console.proofs.WriteLoop.{reads_on, reads_start}
use Rattle.ghc_console.proofs.replies.session_listing.write_each_spy.Goals as goal

pub loop-predicate-init : goal.loop-predicate-init
loop-predicate-init g c = (going_start (lines_of_each chronicle_predicate_text c.args.spies.now) _, reads_start _, refl)

pub loop-predicate-preserved : goal.loop-predicate-preserved
loop-predicate-preserved g c =
    let xs = c.args.spies.now in
    let i = c.loop-predicate.predicate-index in
    let x = c.predicate-item.result in
    let at = here xs i x c.loop-predicate-test.true c.predicate-item.is in (
      lines_on chronicle_predicate_text (lines_of_each chronicle_predicate_text xs) xs i x _ _ _ at c.loop-predicate.invariant.0 (c.in_ok-write_made.ensures.told (lined (chronicle_predicate_text x)) c.tell_predicate-made.ensures),
      reads_on _ _ _ c.loop-predicate.invariant.1 c.in_ok-write_made.ensures.writes.reads,
      c.in_ok-write_made.ensures.writes.count ∙ c.loop-predicate.invariant.2,
    )

pub returns-in_err-write_made-clause-told : goal.returns-in_err-write_made-clause-told
returns-in_err-write_made-clause-told g c =
    let xs = c.args.spies.now in
    let i = c.loop-predicate.predicate-index in
    let x = c.predicate-item.result in
    rw (err_from_is_err_and c.from_residual.result c.from_residual.ensures.1).1 (lines_broken chronicle_predicate_text (lines_of_each chronicle_predicate_text xs) xs i x _ _ _ (here xs i x c.loop-predicate-test.true c.predicate-item.is) c.loop-predicate.invariant.0 (c.in_err-write_made.ensures.told (lined (chronicle_predicate_text x)) c.tell_predicate-made.ensures))

pub returns-clause-told : goal.returns-clause-told
returns-clause-told g c =
    let xs = c.args.spies.now in
    lines_done chronicle_predicate_text (lines_of_each chronicle_predicate_text xs) xs c.loop-predicate.predicate-index _ _ (omega (arith, c.loop-predicate-test.false)) c.loop-predicate.invariant.0
