use Rattle.ghc_fire.proofs.Words.{◌≡◌, length, operated}
use Rattle.ghc_fire.proofs.instances.expressions.rebuild.Given as goal

abbrev pub invariant-loop-operator : goal.invariant-loop-operator
invariant-loop-operator l = operated l.rights.items l.expression ≡ operated l.initial.rights.items l.initial.expression

abbrev pub decreases-loop-operator : goal.decreases-loop-operator
decreases-loop-operator l = length l.rights.items
