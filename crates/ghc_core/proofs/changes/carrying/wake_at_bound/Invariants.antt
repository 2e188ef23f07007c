use Rattle.ghc_core.proofs.Words.{◌≤◌, AreSpared, AreWoken}
use Rattle.ghc_core.proofs.Carried.{Firsts}
use Rattle.ghc_core.proofs.changes.carrying.wake_at_bound.Given as goal

abbrev pub invariant-loop-x : goal.invariant-loop-x
invariant-loop-x l =
    AreSpared (Firsts l.x-items l.x-index) l.initial.tries.notes l.tries.notes × AreWoken (Firsts l.x-items l.x-index) l.initial.tries.notes l.initial.tries.untried l.tries.untried
    × (l.initial.tries.room ≤ l.tries.room)
