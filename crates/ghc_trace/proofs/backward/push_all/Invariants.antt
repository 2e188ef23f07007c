use Rattle.ghc_trace.proofs.Words.{◌≡◌, ◌++◌, take}
use Rattle.ghc_trace.proofs.backward.push_all.Given as goal

abbrev pub invariant-loop-x : goal.invariant-loop-x
invariant-loop-x l = l.waiting.items ≡ l.initial.waiting.items ++ take l.x-index l.xs
