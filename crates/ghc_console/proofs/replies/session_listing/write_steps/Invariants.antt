use Rattle.ghc_console.proofs.CitedWords.{◌≡◌, drop, step_text, ReadsNothing}
use Rattle.ghc_console.proofs.ListedLines.{lines_of_each}
use Rattle.ghc_console.proofs.RunLines.{Going}
use Rattle.ghc_console.proofs.replies.session_listing.write_steps.Given as goal

abbrev pub invariant-loop-step : goal.invariant-loop-step
invariant-loop-step g l =
    let d = g.D.Device in
    Going (lines_of_each step_text l.steps) (lines_of_each step_text (drop l.step-index l.steps)) (d.written l.initial.device) (d.written l.device)
    × ReadsNothing d l.initial.device l.device × (d.failures l.device ≡ d.failures l.initial.device)
