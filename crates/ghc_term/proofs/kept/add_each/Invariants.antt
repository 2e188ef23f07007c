use Rattle.ghc_term.proofs.Words.{take, In}
use Rattle.ghc_term.specs.inner.KeptList.{Gathers}
use Rattle.ghc_term.proofs.kept.add_each.Given as goal

abbrev pub invariant-loop-x : goal.invariant-loop-x
invariant-loop-x l = Gathers (λ y. In y (take l.x-index l.list)) l.initial.into l.into
