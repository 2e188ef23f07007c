use Rattle.ghc_console.proofs.CitedWords.{sym, subst, TellsSchedule, with_hands}
use Rattle.ghc_console.proofs.SchedulePlays.{known_none, opened}
use Rattle.ghc_console.proofs.schedules.play.schedule.Goals as goal

pub returns-in-Err-clause-played : goal.returns-in-Err-clause-played
returns-in-Err-clause-played g c = (with_hands c.args.core, sym c.in-Err.ensures.back, known_none _ _ _)

pub returns-clause-played : goal.returns-clause-played
returns-clause-played g c =
    let d = g.D.Device in
    let ran = c.play_lines-result in
    let first = opened c.in-Ok.world c.args.core c.in-Ok.ensures.core c.in-Ok.ensures.hands c.in-Ok.ensures.meter in
    (ran.new.world, sym c.into_core.ensures, subst (λ w. TellsSchedule w (d.unread c.args.device.now) (d.written c.args.device.now) (d.written ran.new.device) ran.new.world ran.result) first ran.ensures.played)
