use Rattle.std.proofs.Common.{length}
use Rattle.ghc_pool.proofs.Words.{IsMet, Passed}
use Rattle.ghc_pool.proofs.runs.drain.among_listed.Given as goal

abbrev pub invariant-loop-goal : goal.invariant-loop-goal
invariant-loop-goal l = IsMet l.spies l.root l.initial.core.world l.initial.core.notes Passed l.core.world l.core.notes

abbrev pub decreases-loop-goal : goal.decreases-loop-goal
decreases-loop-goal l = length l.listed.items
