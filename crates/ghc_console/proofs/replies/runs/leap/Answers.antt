use Rattle.ghc_console.proofs.RunLines.{is_added, opening_left, runs_so, tells_run}
use Rattle.ghc_console.proofs.replies.runs.leap.Goals as goal

pub returns-clause-told : goal.returns-clause-told
returns-clause-told g c = tells_run c.runs_add_at_the_end.ensures _ _ _ _ _ _ _ _ (runs_so c.args.root _ _ _ _ _ _ _ _ c.mode_of-mode.ensures c.run_together-core.ensures.ran)

pub returns-clause-added : goal.returns-clause-added
returns-clause-added g c = is_added c.runs_add_at_the_end.ensures _ _ _ _ _ _ _ _ (runs_so c.args.root _ _ _ _ _ _ _ _ c.mode_of-mode.ensures c.run_together-core.ensures.ran)

pub returns-clause-opening : goal.returns-clause-opening
returns-clause-opening g c = opening_left c.runs_add_at_the_end.ensures _ _ _ _ _ _ _ _ (runs_so c.args.root _ _ _ _ _ _ _ _ c.mode_of-mode.ensures c.run_together-core.ensures.ran)
