use Rattle.ghc_records.proofs.Words.{◌≡◌, ◌≤◌, length, with_makes}
use Rattle.ghc_records.proofs.making.make_list.Given as goal

abbrev pub invariant-loop-goal : goal.invariant-loop-goal
invariant-loop-goal l =
    (l.place ≡ length l.makes.items) × (length l.makes.items ≤ l.goals.room)
    × (with_makes l.step 1 l.makes.items l.goals.held ≡ with_makes l.step 1 l.initial.makes.items l.initial.goals.held)

abbrev pub decreases-loop-goal : goal.decreases-loop-goal
decreases-loop-goal l = length l.makes.items
