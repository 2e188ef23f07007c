use Rattle.ghc_console.proofs.CitedWords.{◌≡◌, ◌+◌, ◌-◌, prepend_known, CountsGiven, state_of}
use Rattle.ghc_console.proofs.SessionFirings.{FiredSo}
use Rattle.ghc_console.proofs.SessionLoop.{Going}
use Rattle.ghc_console.proofs.session_loop.session.Given as goal

abbrev pub invariant-loop : goal.invariant-loop
invariant-loop g l =
    let d = g.D.Device in
    let it = goal.iterator-loop g in
    let first = d.earlier l.initial.device + d.latest l.initial.device in
    it.can_next l.iterator' × it.is_finite l.iterator'
    × Going (state_of l.initial.debugger) (state_of l.debugger) (d.unread l.initial.device) (prepend_known l.ahead (d.unread l.device)) (d.written l.initial.device) (d.written l.device)
    (d.earlier l.device - first)
    × (d.failures l.device ≡ d.failures l.initial.device) × (l.debugger.core.world.opening ≡ l.initial.debugger.core.world.opening)
    × FiredSo (d.unread l.initial.device) (prepend_known l.ahead (d.unread l.device)) l.initial.debugger.core.meter.firings l.debugger.core.meter.firings
    × CountsGiven (d.unread l.initial.device) (d.unread l.device) first (d.earlier l.device + d.latest l.device)
