use Rattle.ghc_console.proofs.CitedWords.{◌≡◌, ◌≤◌, ◌-◌, drop, map, last_of, step_line, ReadsNothing}
use Rattle.ghc_console.proofs.RunLines.{Going}
use Rattle.ghc_console.proofs.replies.run_lines.write_steps.Given as goal

abbrev pub invariant-loop-number : goal.invariant-loop-number
invariant-loop-number g l =
    let d = g.D.Device in
    let w = l.core.world in
    let first = w.next - l.count in
    let steps = last_of l.count w.kept in
    (first ≤ l.number) × Going (map step_line steps) (map step_line (drop (l.number - first) steps)) (d.written l.initial.device) (d.written l.device)
    × ReadsNothing d l.initial.device l.device × (d.failures l.device ≡ d.failures l.initial.device)
