use Rattle.ghc_pool.proofs.Words.{◌≡◌, ◌≤◌, ◌-◌, List, length, Record, Takes, CanGoOn}
use Rattle.ghc_pool.proofs.runs.alone.go_on.Given as goal

abbrev pub invariant-loop-added : goal.invariant-loop-added
invariant-loop-added l = record {
  steps : List Record;
  taken : Takes 1 l.spies l.root l.initial.core.world l.initial.core.notes steps l.core.world l.core.notes;
  count : l.added ≡ length steps;
  few : l.added ≤ l.limit;
  goes_on : CanGoOn l.spies l.root l.core.world;
}

abbrev pub decreases-loop-added : goal.decreases-loop-added
decreases-loop-added l = l.limit - l.added
