use Rattle.ghc_trace.proofs.Words.{◌≡◌, ◌++◌, map, drop, string_bytes, StartsWith, port_of, ports_text}
use Rattle.ghc_trace.proofs.port.write_ports.Given as goal

abbrev pub invariant-loop-port : goal.invariant-loop-port
invariant-loop-port l =
    (string_bytes l.out ++ ports_text (map port_of (drop l.port-index l.ports)) ≡ string_bytes l.fn.out ++ ports_text (map port_of l.ports))
    × StartsWith (string_bytes l.out) (string_bytes l.fn.out)
