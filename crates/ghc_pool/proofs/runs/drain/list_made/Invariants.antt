use Rattle.std.proofs.Common.{◌≡◌, ◌++◌, ◌-◌}
use Rattle.ghc_pool.specs.inner.Meeting.{made_back}
use Rattle.ghc_pool.proofs.runs.drain.list_made.Given as goal

abbrev pub invariant-loop-index : goal.invariant-loop-index
invariant-loop-index l = l.listed.items ++ made_back l.step (l.count - l.index) ≡ l.initial.listed.items ++ made_back l.step l.count
