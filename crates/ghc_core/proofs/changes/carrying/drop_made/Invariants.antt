use Rattle.ghc_core.proofs.Words.{◌≤◌, AreDropped, IsGiven}
use Rattle.ghc_core.proofs.changes.carrying.drop_made.Given as goal

abbrev pub decreases-loop-place : goal.decreases-loop-place
decreases-loop-place l = l.place

abbrev pub invariant-loop-place : goal.invariant-loop-place
invariant-loop-place l = AreDropped (IsGiven l.step l.place l.count) l.initial.tries l.tries × (l.initial.tries.room ≤ l.tries.room) × (l.place ≤ l.count)
