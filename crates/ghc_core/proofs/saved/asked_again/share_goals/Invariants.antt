use Rattle.std.proofs.Common.{◌≡◌, take}
use Rattle.ghc_core.proofs.saved.asked_again.share_goals.Given as goal

abbrev pub invariant-loop-goal : goal.invariant-loop-goal
invariant-loop-goal l = l.shared.items ≡ take l.goal-index l.goals
