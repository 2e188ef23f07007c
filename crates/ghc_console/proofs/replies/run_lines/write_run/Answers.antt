use Rattle.ghc_console.proofs.CitedWords.{err_from_is_err_and, [], ◌∷◌, map, last_of, run_lines, step_line, stop_line}
use Rattle.ghc_console.proofs.RunLines.{going_broken, going_last, going_on, going_start}
use Rattle.ghc_console.proofs.replies.run_lines.write_run.Goals as goal

pub returns-clause-told : goal.returns-clause-told
returns-clause-told g c =
    let report = c.args.report in
    let steps = last_of report.added c.args.core.now.world.kept in
    let all = run_lines steps report.stop in
    let told = c.in_ok-write_steps.ensures.told in
    going_last all (stop_line report.stop ∷ []) _ _ _ c.write_stop.result
    (going_on all (map step_line steps) (stop_line report.stop ∷ []) _ _ _ told.0 (going_start all (g.D.Device.written c.args.device.now)) told.1 told.2) c.write_stop.ensures.told

pub returns-in_err-write_steps-clause-told : goal.returns-in_err-write_steps-clause-told
returns-in_err-write_steps-clause-told g c =
    let report = c.args.report in
    let steps = last_of report.added c.args.core.now.world.kept in
    let all = run_lines steps report.stop in
    let told = c.in_err-write_steps.ensures.told in
    rw (err_from_is_err_and c.from_residual.result c.from_residual.ensures.1).1 (going_broken all (map step_line steps) (stop_line report.stop ∷ []) _ _ _ told.0 told.2.0 (going_start all (g.D.Device.written c.args.device.now)) told.1 told.2.1)
