use Rattle.ghc_depend.proofs.Words.{◌≢◌, take, MakesVariable}
use Rattle.ghc_depend.proofs.Causes.{IsLeastOf}
use Rattle.ghc_depend.proofs.cause.least_named.Given as goal

abbrev pub invariant-loop-name : goal.invariant-loop-name
invariant-loop-name l = IsLeastOf (λ x. (x.step ≢ l.later.number) × MakesVariable l.earlier x) (take l.name-index l.name-items) l.least
