use Rattle.ghc_pool.proofs.Words.{◌≡◌, List, length, Record, HasMetNoFailure, Takes, TookInQuestion}
use Rattle.ghc_pool.proofs.runs.drain.drain.Given as goal

abbrev pub invariant-loop-taken : goal.invariant-loop-taken
invariant-loop-taken l = record {
  steps : List Record;
  taken : Takes 1 l.spies l.root l.initial.core.world l.initial.core.notes steps l.core.world l.core.notes;
  count : l.taken ≡ length steps;
  asked : TookInQuestion l.root l.core.world.kept l.since;
  unfailed : HasMetNoFailure l.root l.core.world.kept l.core.notes;
}
