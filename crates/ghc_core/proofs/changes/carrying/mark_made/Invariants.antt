use Rattle.ghc_core.proofs.Words.{◌≤◌, ◌+◌, take, AreMarked, IsToTry}
use Rattle.ghc_core.proofs.changes.carrying.mark_made.Given as goal

abbrev pub invariant-loop-index : goal.invariant-loop-index
invariant-loop-index l = AreMarked (IsToTry l.step (take l.index l.makes)) l.initial.tries l.tries × (l.initial.tries.room ≤ l.tries.room + l.index)
