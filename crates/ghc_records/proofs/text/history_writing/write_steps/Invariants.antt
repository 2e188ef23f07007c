use Rattle.ghc_records.proofs.Words.{◌≡◌, ◌++◌, drop, map, string_bytes, step_text, lines_text}
use Rattle.ghc_records.proofs.text.history_writing.write_steps.Given as goal

abbrev pub invariant-loop-step : goal.invariant-loop-step
invariant-loop-step l = string_bytes l.out ++ lines_text (map step_text (drop l.step-index l.steps)) ≡ string_bytes l.fn.out ++ lines_text (map step_text l.steps)
