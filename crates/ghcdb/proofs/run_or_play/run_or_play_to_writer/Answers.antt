use Rattle.ghcdb.proofs.RunsOrPlays.{in_writer}
use Rattle.ghcdb.proofs.run_or_play.run_or_play_to_writer.Goals as goal

pub returns-clause-told : goal.returns-clause-told
returns-clause-told g c =
    let ran = c.run_or_play_on_device-result.ensures in
    let parts = c.into_parts-writer.ensures in
    in_writer _ _ _ _ _ _ _ _ c.run_or_play_on_device-result.result ran.told ran.held parts.writer parts.held
