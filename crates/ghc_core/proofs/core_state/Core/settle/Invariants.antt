use Rattle.ghc_core.proofs.Words.{◌≡◌, ℕ, AreNoted, tried_often}
use Rattle.std.specs.FinSet as set
use Rattle.ghc_core.proofs.core_state.Core.settle.Given as goal

abbrev pub invariant-loop-goal : goal.invariant-loop-goal
invariant-loop-goal l = record {
  world : l.self.world ≡ l.initial.self.world;
  often : ℕ;
  noted : AreNoted often l.initial.self.notes l.initial.self.untried l.self.notes l.self.untried;
  counted : l.self.meter ≡ tried_often often l.initial.self.meter;
}

abbrev pub decreases-loop-goal : goal.decreases-loop-goal
decreases-loop-goal l = set.len l.self.untried
