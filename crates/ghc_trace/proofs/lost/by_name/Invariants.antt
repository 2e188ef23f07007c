use Rattle.ghc_trace.proofs.Words.{◌↔◌, In, VarName, take}
use Rattle.ghc_trace.proofs.lost.by_name.Given as goal

abbrev pub invariant-loop-x : goal.invariant-loop-x
invariant-loop-x l = (p : VarName) → In p l.names.keys ↔ In p (take l.x-index l.x-items)
