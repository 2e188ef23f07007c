use Rattle.ghc_trace.proofs.Words.{◌≡◌, [], ◌∷◌, take, Record, all_gone, Gathers}
use Rattle.ghc_trace.proofs.Disturbing.{IsOfOneOf}
use Rattle.ghc_trace.proofs.disturbed.Disturbed.by_rolling_back.Given as goal

abbrev pub invariant-loop-removal : goal.invariant-loop-removal
invariant-loop-removal l = (r : Record) × (all_gone l.rollback ≡ r ∷ l.others) × Gathers l.tries.notes (IsOfOneOf l.tries.notes (r ∷ take l.removal-index l.others)) [] l.gathered.goals.items
