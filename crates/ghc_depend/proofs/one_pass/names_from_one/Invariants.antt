use Rattle.ghc_depend.proofs.Words.{◌≢◌, take, VarName, In, MakesVariable}
use Rattle.ghc_depend.proofs.OnePass.{HoldsAt}
use Rattle.ghc_depend.proofs.one_pass.names_from_one.Given as goal

abbrev pub invariant-loop-x : goal.invariant-loop-x
invariant-loop-x l = (x : VarName) → In x (take l.x-index l.x-items) → ¬ HoldsAt l.records.slots l.places.keys (λ a. (x.step ≢ l.later.number) × MakesVariable a x)
