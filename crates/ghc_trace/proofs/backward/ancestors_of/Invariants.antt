use Rattle.ghc_trace.proofs.Words.{◌+◌, length, In}
use Rattle.ghc_trace.proofs.Ancestors.{Climbing, listed}
use Rattle.ghc_trace.proofs.backward.ancestors_of.Given as goal

abbrev pub invariant-loop-x : goal.invariant-loop-x
invariant-loop-x l = Climbing l.parents (λ v. In v l.from) l.ancestors l.waiting.items

abbrev pub decreases-loop-x : goal.decreases-loop-x
decreases-loop-x l = length l.waiting.items + listed l.ancestors l.parents.entries
