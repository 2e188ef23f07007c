use Rattle.ghcdb.proofs.RunsOrPlays.{schedule_refused, schedule_told, session_refused, session_told}
use Rattle.ghcdb.proofs.run_or_play.run_or_play_on_device.Goals as goal

pub returns-in-Schedule-clause-told : goal.returns-in-Schedule-clause-told
returns-in-Schedule-clause-told g c = schedule_told c.args.debugger _ _ _ _ c.play_and_forget.result c.of_part-in-Schedule.result c.in-Schedule.is c.of_part-in-Schedule.ensures c.play_and_forget.ensures.told

pub returns-in-Schedule-clause-refused : goal.returns-in-Schedule-clause-refused
returns-in-Schedule-clause-refused g c = schedule_refused _ c.play_and_forget.result c.of_part-in-Schedule.result c.in-Schedule.is c.of_part-in-Schedule.ensures c.play_and_forget.ensures.failed

pub returns-in-Session-clause-told : goal.returns-in-Session-clause-told
returns-in-Session-clause-told g c = session_told c.args.debugger _ _ _ _ c.run_and_forget.result c.of_part.result c.in-Session.is c.of_part.ensures c.run_and_forget.ensures.told

pub returns-in-Session-clause-refused : goal.returns-in-Session-clause-refused
returns-in-Session-clause-refused g c = session_refused _ c.run_and_forget.result c.of_part.result c.in-Session.is c.of_part.ensures c.run_and_forget.ensures.failed
