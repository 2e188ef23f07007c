use Rattle.ghc_trace.proofs.Words.{take, value_at}
use Rattle.ghc_trace.proofs.Places.{AreThoseOf, IsEitherWay}
use Rattle.ghc_trace.proofs.place_slices.on_way_to.Given as goal

abbrev pub invariant-loop-v : goal.invariant-loop-v
invariant-loop-v l = AreThoseOf (IsEitherWay (value_at l.store.held) l.fn.y) (take l.v-index l.among) l.way.items
