use Rattle.std.proofs.Common.{◌+◌}
use Rattle.ghc_console.proofs.ReadLoop.{Begun}
use Rattle.ghc_console.proofs.devices.reading.Ahead.next_line.Given as goal

abbrev pub invariant-loop : goal.invariant-loop
invariant-loop g l =
    let d = g.D.Device in
    let it = goal.iterator-loop g in
    it.can_next l.iterator' × it.is_finite l.iterator'
    × Begun l.initial.self l.self (d.unread l.initial.device) (d.unread l.device) l.line
    (d.written l.initial.device) (d.written l.device) (d.failures l.initial.device) (d.failures l.device)
    (d.earlier l.initial.device + d.latest l.initial.device) (d.earlier l.device + d.latest l.device) (d.earlier l.initial.device) (d.earlier l.device)
