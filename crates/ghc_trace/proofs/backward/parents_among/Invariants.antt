use Rattle.ghc_trace.proofs.Words.{take, value_at}
use Rattle.ghc_trace.specs.inner.Backward.{AreParentsAmong}
use Rattle.ghc_trace.proofs.backward.parents_among.Given as goal

abbrev pub invariant-loop-v : goal.invariant-loop-v
invariant-loop-v l = AreParentsAmong (value_at l.store.held) (take l.v-index l.among) l.parents
