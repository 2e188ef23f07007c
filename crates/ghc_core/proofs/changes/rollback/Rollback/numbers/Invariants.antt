use Rattle.ghc_core.proofs.Words.{◌≡◌, ◌++◌, take, numbers}
use Rattle.ghc_core.proofs.changes.rollback.Rollback.numbers.Given as goal

abbrev pub invariant-loop-removal : goal.invariant-loop-removal
invariant-loop-removal l = l.ns.items ≡ l.initial.ns.items ++ numbers (take l.removal-index l.removal-items)
