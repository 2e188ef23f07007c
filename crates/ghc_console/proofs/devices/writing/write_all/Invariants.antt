use Rattle.std.proofs.Common.{◌≡◌, length}
use Rattle.ghc_console.proofs.WriteLoop.{Progress}
use Rattle.ghc_console.proofs.devices.writing.write_all.Given as goal

abbrev pub invariant-loop-rest : goal.invariant-loop-rest
invariant-loop-rest g l =
    let d = g.D.Device in
    Progress l.bytes l.rest (d.written l.initial.device) (d.written l.device) (d.unread l.initial.device) (d.unread l.device)
    (d.failures l.initial.device) (d.failures l.device)
    × (d.earlier l.device ≡ d.earlier l.initial.device) × (d.latest l.device ≡ d.latest l.initial.device)

abbrev pub decreases-loop-rest : goal.decreases-loop-rest
decreases-loop-rest g l = length l.rest
