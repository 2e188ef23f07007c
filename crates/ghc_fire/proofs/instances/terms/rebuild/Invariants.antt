use Rattle.ghc_fire.proofs.Words.{◌≡◌, length, plugged}
use Rattle.ghc_fire.proofs.instances.terms.rebuild.Given as goal

abbrev pub invariant-loop-front : goal.invariant-loop-front
invariant-loop-front l = plugged l.fronts.items l.term ≡ plugged l.initial.fronts.items l.initial.term

abbrev pub decreases-loop-front : goal.decreases-loop-front
decreases-loop-front l = length l.fronts.items
