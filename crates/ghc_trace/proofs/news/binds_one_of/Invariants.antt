use Rattle.ghc_trace.proofs.Words.{take, IsTrue, VarName, In}
use Rattle.std.specs.FinMap as finite
use Rattle.ghc_trace.proofs.news.binds_one_of.Given as goal

abbrev pub invariant-loop-x : goal.invariant-loop-x
invariant-loop-x l = (y : VarName) → In y (take l.x-index l.x-items) → ¬ IsTrue (finite.contains_key l.binds y)
