use Rattle.ghc_core.proofs.Words.{◌≡◌, ◌++◌, map, drop, said_by}
use Rattle.ghc_core.proofs.saved.told.entries_told.Given as goal

abbrev pub invariant-loop-place : goal.invariant-loop-place
invariant-loop-place l = map said_by l.told.items ++ drop l.place l.journal.held ≡ drop l.first l.journal.held
