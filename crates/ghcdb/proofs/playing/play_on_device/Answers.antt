use Rattle.ghc_term.specs.declared.fault.Fault.TheVariants as fault
use Rattle.ghcdb.proofs.Played.{played_begun, played_kept}
use Rattle.ghcdb.proofs.playing.play_on_device.Goals as goal

pub returns-in-Ok-clause-told : goal.returns-in-Ok-clause-told
returns-in-Ok-clause-told g c = played_kept c.args.core c.schedule-core.result.0 _ _ _ _ c.schedule-core.result.1 c.schedule-core.ensures.played c.in-Ok.ensures.written

pub returns-in-Err-clause-told : goal.returns-in-Err-clause-told
returns-in-Err-clause-told g c =
    let played = c.schedule-core.ensures.played in
    let kept = played_kept c.args.core c.schedule-core.result.0 _ _ _ _ c.schedule-core.result.1 played c.in-Err.ensures.written in
    played_begun c.args.core c.schedule-core.result.0 _ _ _ c.schedule-core.result.1 fault.Device kept
