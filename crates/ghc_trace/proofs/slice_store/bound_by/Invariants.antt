use Rattle.ghc_trace.proofs.Words.{take}
use Rattle.ghc_trace.proofs.SliceStore.{AreBoundBy}
use Rattle.ghc_trace.proofs.slice_store.bound_by.Given as goal

abbrev pub invariant-loop-number : goal.invariant-loop-number
invariant-loop-number l = AreBoundBy l.records.held (take l.number-index l.steps) l.bound.items
