use Rattle.ghc_records.proofs.ChronicleWritten.{here}
use Rattle.ghc_console.proofs.CitedWords.{err_from_is_err_and, ◌∙◌, arith, lined, refl, step_text}
use Rattle.ghc_console.proofs.ListedLines.{lines_broken, lines_done, lines_of_each, lines_on}
use Rattle.ghc_console.proofs.RunLines.{going_start}
use Rattle.ghc_console.proofs.WriteLoop.{reads_on, reads_start}
use Rattle.ghc_console.proofs.replies.session_listing.write_steps.Goals as goal

pub loop-step-init : goal.loop-step-init
loop-step-init g c = (going_start (lines_of_each step_text c.args.steps.now) _, reads_start _, refl)

pub loop-step-preserved : goal.loop-step-preserved
loop-step-preserved g c =
    let xs = c.args.steps.now in
    let i = c.loop-step.step-index in
    let x = c.step-item.result in
    let at = here xs i x c.loop-step-test.true c.step-item.is in (
      lines_on step_text (lines_of_each step_text xs) xs i x _ _ _ at c.loop-step.invariant.0 (c.in_ok-write_made.ensures.told (lined (step_text x)) c.tell_step-made.ensures),
      reads_on _ _ _ c.loop-step.invariant.1 c.in_ok-write_made.ensures.writes.reads,
      c.in_ok-write_made.ensures.writes.count ∙ c.loop-step.invariant.2,
    )

pub returns-in_err-write_made-clause-told : goal.returns-in_err-write_made-clause-told
returns-in_err-write_made-clause-told g c =
    let xs = c.args.steps.now in
    let i = c.loop-step.step-index in
    let x = c.step-item.result in
    rw (err_from_is_err_and c.from_residual.result c.from_residual.ensures.1).1 (lines_broken step_text (lines_of_each step_text xs) xs i x _ _ _ (here xs i x c.loop-step-test.true c.step-item.is) c.loop-step.invariant.0 (c.in_err-write_made.ensures.told (lined (step_text x)) c.tell_step-made.ensures))

pub returns-clause-told : goal.returns-clause-told
returns-clause-told g c =
    let xs = c.args.steps.now in
    lines_done step_text (lines_of_each step_text xs) xs c.loop-step.step-index _ _ (omega (arith, c.loop-step-test.false)) c.loop-step.invariant.0
