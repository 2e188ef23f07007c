use Rattle.ghc_trace.proofs.Words.{take}
use Rattle.ghc_trace.proofs.Ancestors.{GainsAll}
use Rattle.ghc_trace.proofs.backward.add_as_parent.Given as goal

abbrev pub invariant-loop-child : goal.invariant-loop-child
invariant-loop-child l = GainsAll l.initial.parents l.parents (take l.child-index l.child-items) l.parent
