use Rattle.ghc_trace.proofs.Words.{◌≡◌, ◌+◌, ◌++◌, drop, string_bytes, StartsWith, calls, ports_text}
use Rattle.ghc_trace.proofs.step_ports.write_calls.Given as goal

abbrev pub invariant-loop-index : goal.invariant-loop-index
invariant-loop-index l =
    (string_bytes l.out ++ ports_text (calls l.number (l.index + 1) (drop l.index l.effect.makes)) ≡ string_bytes l.fn.out ++ ports_text (calls l.number 1 l.effect.makes))
    × StartsWith (string_bytes l.out) (string_bytes l.fn.out)
