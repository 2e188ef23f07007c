use Rattle.ghc_records.proofs.Words.{string_bytes, step_text}
use Rattle.ghc_records.proofs.ChronicleWritten.{ended, here, line_put}
use Rattle.ghc_records.proofs.text.history_writing.write_steps.Goals as goal

pub loop-step-preserved : goal.loop-step-preserved
loop-step-preserved c =
    line_put step_text c.args.steps.now c.loop-step.step-index c.step-item.result (string_bytes c.loop-step.out) (string_bytes c.push_str.new.self) _
    (here c.args.steps.now c.loop-step.step-index c.step-item.result c.loop-step-test.true c.step-item.is)
    (ended (string_bytes c.loop-step.out) (string_bytes c.push_journal_step.new.out) (string_bytes c.push_str.new.self) (step_text c.step-item.result)
    c.in_ok-push_journal_step.ensures c.in_ok-push_str.ensures.bytes) c.loop-step.invariant
