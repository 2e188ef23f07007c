use Rattle.ghc_records.proofs.Words.{◌≡◌, ◌≤◌, without_makes}
use Rattle.ghc_records.proofs.making.unmake_goals.Given as goal

abbrev pub invariant-loop-place : goal.invariant-loop-place
invariant-loop-place l = (without_makes l.step l.place l.goals.held ≡ without_makes l.step l.count l.initial.goals.held) × (l.initial.goals.room ≤ l.goals.room)

abbrev pub decreases-loop-place : goal.decreases-loop-place
decreases-loop-place l = l.place
