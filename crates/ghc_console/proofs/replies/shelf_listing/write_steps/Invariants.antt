use Rattle.ghc_console.proofs.CitedWords.{◌≡◌, map, lined, steps_told, ReadsNothing}
use Rattle.ghc_console.proofs.RunLines.{Going}
use Rattle.ghc_console.proofs.replies.shelf_listing.write_steps.Given as goal

abbrev pub invariant-loop-taken : goal.invariant-loop-taken
invariant-loop-taken g l =
    let d = g.D.Device in
    Going (map lined (steps_told (map (λ e. (e.0, e.1.now)) l.ordered.entries))) (map lined (steps_told (map (λ e. (e.0, e.1.now)) l.taken-iterator))) (d.written l.initial.device) (d.written l.device)
    × ReadsNothing d l.initial.device l.device × (d.failures l.device ≡ d.failures l.initial.device)
