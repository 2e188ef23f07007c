use Rattle.std.specs.FinMap as finite
use Rattle.ghc_hooks.proofs.Waking.{IsWaking}
use Rattle.ghc_hooks.proofs.tries.Tries.wake_at.Given as goal

abbrev pub invariant-loop-goal : goal.invariant-loop-goal
invariant-loop-goal l = IsWaking l.x l.initial.self l.self

abbrev pub decreases-loop-goal : goal.decreases-loop-goal
decreases-loop-goal l = finite.len l.self.notes
