use Rattle.ghc_trace.proofs.Words.{◌≡◌, ◌++◌, take, keys_of}
use Rattle.ghc_trace.proofs.slice_store.add_bound.Given as goal

abbrev pub invariant-loop-x : goal.invariant-loop-x
invariant-loop-x l = l.bound.items ≡ l.initial.bound.items ++ keys_of (take l.x-index l.x-items)
