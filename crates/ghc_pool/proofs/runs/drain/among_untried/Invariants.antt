use Rattle.std.specs.FinSet as set
use Rattle.ghc_pool.proofs.Words.{IsMet, Passed}
use Rattle.ghc_pool.proofs.runs.drain.among_untried.Given as goal

abbrev pub invariant-loop-goal : goal.invariant-loop-goal
invariant-loop-goal l = IsMet l.spies l.root l.initial.core.world l.initial.core.notes Passed l.core.world l.core.notes

abbrev pub decreases-loop-goal : goal.decreases-loop-goal
decreases-loop-goal l = set.len l.core.untried
