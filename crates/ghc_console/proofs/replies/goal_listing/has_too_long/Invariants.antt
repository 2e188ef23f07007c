use Rattle.ghc_console.proofs.CitedWords.{◌≡◌, ◌++◌, List, Named, lent}
use Rattle.ghc_console.proofs.replies.goal_listing.has_too_long.Given as goal

abbrev pub invariant-loop-goal : goal.invariant-loop-goal
invariant-loop-goal l = (done : List Named) × (lent l.goals.entries ≡ done ++ lent l.goal-iterator)
