use Rattle.ghc_depend.proofs.Words.{◌≢◌, take, VarName, In, MakesVariable}
use Rattle.ghc_depend.proofs.cause.names_from.Given as goal

abbrev pub invariant-loop-x : goal.invariant-loop-x
invariant-loop-x l = (x : VarName) → In x (take l.x-index l.x-items) → ¬ ((x.step ≢ l.later.number) × MakesVariable l.earlier x)
