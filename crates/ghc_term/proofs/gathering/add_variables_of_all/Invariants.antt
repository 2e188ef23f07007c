use Rattle.ghc_term.proofs.Words.{take, map}
use Rattle.ghc_term.specs.inner.Walking.{StandsIn}
use Rattle.ghc_term.specs.inner.KeptList.{Gathers}
use Rattle.ghc_term.proofs.gathering.add_variables_of_all.Given as goal

abbrev pub invariant-loop-term : goal.invariant-loop-term
invariant-loop-term l = Gathers (λ y. StandsIn y (map (λ t. t.now) (take l.term-index l.terms))) l.initial.into l.into
