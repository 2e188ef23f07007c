use Rattle.ghc_trace.proofs.Words.{◌≡◌, take, spied_of}
use Rattle.ghc_trace.proofs.spies.SpySet.of.Given as goal

abbrev pub invariant-loop-predicate : goal.invariant-loop-predicate
invariant-loop-predicate l = l.spies ≡ spied_of (take l.predicate-index l.predicates)
