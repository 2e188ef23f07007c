use Rattle.std.specs.FinSet as set
use Rattle.ghc_hooks.proofs.Words.{AreUnblocked}
use Rattle.ghc_hooks.proofs.unblocked.Unblocked.sort.Given as goal

abbrev pub invariant-loop-goal : goal.invariant-loop-goal
invariant-loop-goal l = AreUnblocked l.notes.held l.self

abbrev pub decreases-loop-goal : goal.decreases-loop-goal
decreases-loop-goal l = set.len l.self.unsorted.held
