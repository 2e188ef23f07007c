use Rattle.ghc_console.proofs.CitedWords.{◌≡◌, drop, chronicle_predicate_text, ReadsNothing}
use Rattle.ghc_console.proofs.ListedLines.{lines_of_each}
use Rattle.ghc_console.proofs.RunLines.{Going}
use Rattle.ghc_console.proofs.replies.session_listing.write_each_spy.Given as goal

abbrev pub invariant-loop-predicate : goal.invariant-loop-predicate
invariant-loop-predicate g l =
    let d = g.D.Device in
    Going (lines_of_each chronicle_predicate_text l.spies) (lines_of_each chronicle_predicate_text (drop l.predicate-index l.spies)) (d.written l.initial.device) (d.written l.device)
    × ReadsNothing d l.initial.device l.device × (d.failures l.device ≡ d.failures l.initial.device)
