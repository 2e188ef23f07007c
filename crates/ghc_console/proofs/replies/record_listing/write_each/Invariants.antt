use Rattle.ghc_console.proofs.CitedWords.{◌≡◌, held_in, form_text, ReadsNothing}
use Rattle.ghc_console.proofs.ListedLines.{lines_from, lines_of_each}
use Rattle.ghc_console.proofs.RunLines.{Going}
use Rattle.ghc_console.proofs.replies.record_listing.write_each.Given as goal

abbrev pub invariant-loop-place : goal.invariant-loop-place
invariant-loop-place g l =
    let d = g.D.Device in
    let ss = l.records.slots in
    Going (lines_of_each (form_text l.form) (held_in ss)) (lines_from (form_text l.form) ss l.place) (d.written l.initial.device) (d.written l.device)
    × ReadsNothing d l.initial.device l.device × (d.failures l.device ≡ d.failures l.initial.device)
