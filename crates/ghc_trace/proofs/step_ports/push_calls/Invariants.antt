use Rattle.ghc_trace.proofs.Words.{◌≡◌, ◌+◌, ◌++◌, map, drop, calls, port_of}
use Rattle.ghc_trace.proofs.step_ports.push_calls.Given as goal

abbrev pub invariant-loop-index : goal.invariant-loop-index
invariant-loop-index l =
    map port_of l.ports.items ++ calls l.number (l.index + 1) (drop l.index l.effect.makes) ≡ map port_of l.fn.ports.items ++ calls l.number 1 l.effect.makes
