use Rattle.ghc_console.proofs.CitedWords.{◌∙◌, inl, inr, step_line}
use Rattle.ghc_console.proofs.RunLines.{one_told}
use Rattle.ghc_console.proofs.replies.run_lines.write_step.Goals as goal

pub returns-in-Ok-clause-told : goal.returns-in-Ok-clause-told
returns-in-Ok-clause-told g c = (c.as_bytes.result.now, one_told (step_line c.args.step.now) c.as_bytes.result.now (inl (c.as_bytes.ensures.value ∙ c.in-Ok.ensures)), c.write_all.ensures.bytes)

pub returns-in-Err-clause-told : goal.returns-in-Err-clause-told
returns-in-Err-clause-told g c = (c.as_bytes-in-Err.result.now, one_told (step_line c.args.step.now) c.as_bytes-in-Err.result.now (inr c.as_bytes-in-Err.ensures.value), c.write_all-in-Err.ensures.bytes)
