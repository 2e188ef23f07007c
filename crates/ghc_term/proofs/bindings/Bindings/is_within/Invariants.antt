use Rattle.ghc_term.proofs.Words.{◌≡◌, take, Some, VarName, Tree, In, value_at}
use Rattle.ghc_term.proofs.bindings.Bindings.is_within.Given as goal

abbrev pub invariant-loop-x : goal.invariant-loop-x
invariant-loop-x l = (b : VarName × Tree) → In b (take l.x-index l.x-items) → value_at l.other b.0 ≡ Some b.1
