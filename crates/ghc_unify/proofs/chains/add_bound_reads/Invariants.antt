use Rattle.ghc_unify.proofs.Words.{◌≡◌, take, value_at, met}
use Rattle.std.specs.FinSet as set
use Rattle.ghc_unify.proofs.chains.add_bound_reads.Given as goal

abbrev pub invariant-loop-x : goal.invariant-loop-x
invariant-loop-x l = l.reads ≡ set.union l.initial.reads (set.from_list (met (value_at l.store.held) (take l.x-index l.passed)))
