use Rattle.ghc_trace.proofs.BoundChain.{Paired}
use Rattle.ghc_trace.proofs.who_bound.binders_of.Given as goal

abbrev pub invariant-loop-variable : goal.invariant-loop-variable
invariant-loop-variable l = Paired l.core.world l.chain l.variable-index l.binders.items
