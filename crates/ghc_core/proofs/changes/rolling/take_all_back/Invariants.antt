use Rattle.ghc_core.proofs.Words.{◌≡◌, ◌≤◌, ◌+◌, List, ◌++◌, length, Record, AreTakenBack, with_shelved, AreAllCarriedBack, all_told_back}
use Rattle.ghc_core.proofs.changes.rolling.take_all_back.Given as goal

abbrev pub invariant-loop-removal : goal.invariant-loop-removal
invariant-loop-removal l = record {
  back : List Record;
  split : l.initial.removals.items ≡ l.removals.items ++ back;
  state : AreTakenBack back l.initial.state.held l.state.held;
  tries : AreAllCarriedBack back l.initial.tries l.tries;
  shelf : l.shelf.held ≡ with_shelved back l.initial.shelf.held;
  streams : l.streams ≡ all_told_back back l.initial.streams;
  of_goals : l.initial.state.room.goals + length l.removals.items ≤ l.state.room.goals + length l.initial.removals.items;
  of_tries : l.initial.tries.room + length l.removals.items ≤ l.tries.room + length l.initial.removals.items;
  of_shelf : l.initial.shelf.room + length l.removals.items ≤ l.shelf.room + length l.initial.removals.items;
}

abbrev pub decreases-loop-removal : goal.decreases-loop-removal
decreases-loop-removal l = length l.removals.items
