use Rattle.ghcdb.proofs.RunsOrPlays.{fails_so, ran}
use Rattle.ghcdb.proofs.run_or_play.run_and_forget.Goals as goal

pub returns-clause-told : goal.returns-clause-told
returns-clause-told g c = ran _ _ _ _ _ _ c.run_on_device-debugger.result.1 c.run_on_device-debugger.ensures.told

pub returns-clause-failed : goal.returns-clause-failed
returns-clause-failed g c = fails_so c.run_on_device-debugger.result.1 _ c.run_on_device-debugger.ensures.failed
