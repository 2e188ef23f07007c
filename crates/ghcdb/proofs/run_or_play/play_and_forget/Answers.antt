use Rattle.ghcdb.proofs.RunsOrPlays.{held_played}
use Rattle.ghcdb.proofs.run_or_play.play_and_forget.Goals as goal

pub returns-clause-told : goal.returns-clause-told
returns-clause-told g c = (c.play_on_device-core.result.0, c.play_on_device-core.ensures.told)

pub returns-clause-held : goal.returns-clause-held
returns-clause-held g c = held_played c.play_on_device-core.result.1 _ c.play_on_device-core.ensures.held
