use Rattle.ghc_console.proofs.CitedWords.{◌≡◌, prepend_known}
use Rattle.ghc_console.proofs.SchedulePlays.{KnownGoing}
use Rattle.ghc_console.proofs.schedules.play.play_lines.Given as goal

abbrev pub invariant-loop : goal.invariant-loop
invariant-loop g l =
    let d = g.D.Device in
    let it = goal.iterator-loop g in
    it.can_next l.iterator' × it.is_finite l.iterator'
    × KnownGoing l.initial.world l.world (d.unread l.initial.device) (prepend_known l.ahead (d.unread l.device)) (d.written l.initial.device) (d.written l.device)
    × (d.failures l.device ≡ d.failures l.initial.device)
