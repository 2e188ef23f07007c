use Rattle.ghc_flat.proofs.Words.{◌≡◌, take, keys_of_written, IsIndexOf}
use Rattle.ghc_flat.proofs.index.Index.of.Given as goal

abbrev pub invariant-loop-clause : goal.invariant-loop-clause
invariant-loop-clause l = (l.number ≡ l.clause-index) × IsIndexOf (keys_of_written (take l.clause-index l.clauses)) l.index
