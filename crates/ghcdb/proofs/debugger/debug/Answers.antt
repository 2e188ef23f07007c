use Rattle.ghcdb.proofs.CitedWords.{option_map, refl}
use Rattle.std.specs.Io.Buffered.{reader_remaining}
use Rattle.ghcdb.specs.inner.Running.{are_read, not_read}
use Rattle.ghcdb.proofs.SchedulesGiven.{is_some-option_map, task_of-option_map}
use Rattle.ghcdb.proofs.debugger.debug.Goals as goal

pub returns-in-Ok : goal.returns-in-Ok
returns-in-Ok g c =
    let lines = reader_remaining g.R.File.Read.remaining in
    let given = c.in-Ok.schedule in
    are_read c.in-Ok.texts (option_map lines given) (rw (is_some-option_map lines given) c.in-Ok.ensures.read) (rw (task_of-option_map lines given) c.debug_texts.ensures)

pub returns-in-Err : goal.returns-in-Err
returns-in-Err g c = not_read c.in-Err.refusal c.in-Err.ensures.refused refl c.tell.ensures
