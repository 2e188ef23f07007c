use Rattle.ghc_console.proofs.CitedWords.{◌≡◌, drop, entry_text, ReadsNothing}
use Rattle.ghc_console.proofs.ListedLines.{lines_of_each}
use Rattle.ghc_console.proofs.RunLines.{Going}
use Rattle.ghc_console.proofs.replies.session_listing.write_each_entry.Given as goal

abbrev pub invariant-loop-place : goal.invariant-loop-place
invariant-loop-place g l =
    let d = g.D.Device in
    let held = l.journal.held in
    Going (lines_of_each entry_text (drop l.fn.first held)) (lines_of_each entry_text (drop l.place held)) (d.written l.initial.device) (d.written l.device)
    × ReadsNothing d l.initial.device l.device × (d.failures l.device ≡ d.failures l.initial.device)
