use Rattle.ghc_term.proofs.Words.{◌≢◌, take, In, VarName, Tree}
use Rattle.ghc_term.proofs.table.known.has_no_other.Given as goal

abbrev pub invariant-loop-y : goal.invariant-loop-y
invariant-loop-y l = (e : VarName × Tree) → In e (take l.y-index l.entries) → e.0 ≢ l.x → ¬ In e.0 l.known
