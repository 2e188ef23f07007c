use Rattle.ghc_trace.proofs.Words.{take, value_at}
use Rattle.ghc_trace.specs.inner.PartsCode.{BindsAlone}
use Rattle.ghc_trace.proofs.call_given.bindings_of.Given as goal

abbrev pub invariant-loop-x : goal.invariant-loop-x
invariant-loop-x l = BindsAlone (take l.x-index l.xs) (value_at l.store.held) (value_at l.binds)
