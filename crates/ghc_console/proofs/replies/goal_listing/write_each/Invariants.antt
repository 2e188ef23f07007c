use Rattle.ghc_console.proofs.CitedWords.{◌≡◌, lent, ReadsNothing}
use Rattle.ghc_console.proofs.ListedGoals.{Telling}
use Rattle.ghc_console.proofs.replies.goal_listing.write_each.Given as goal

abbrev pub invariant-loop-name : goal.invariant-loop-name
invariant-loop-name g l =
    let d = g.D.Device in
    Telling l.core.world (lent l.goals.entries) (lent l.name-iterator) (d.written l.initial.device) (d.written l.device)
    × ReadsNothing d l.initial.device l.device × (d.failures l.device ≡ d.failures l.initial.device)
