use Rattle.ghc_trace.proofs.Words.{take, value_at}
use Rattle.ghc_trace.proofs.Held.{AreUnboundOf}
use Rattle.ghc_trace.proofs.holding.unbound_in.Given as goal

abbrev pub invariant-loop-y : goal.invariant-loop-y
invariant-loop-y l = AreUnboundOf (value_at l.store.held) (take l.y-index l.y-items) l.unbound
