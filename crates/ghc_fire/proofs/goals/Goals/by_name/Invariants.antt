use Rattle.std.proofs.Common.{take}
use Rattle.ghc_fire.proofs.Gathering.{IsGathered}
use Rattle.ghc_fire.proofs.GoalNames.{goal_total, goal_antisymmetric}
use Rattle.ghc_fire.proofs.goals.Goals.by_name.Given as goal

abbrev pub invariant-loop-name : goal.invariant-loop-name
invariant-loop-name l = IsGathered goal_total goal_antisymmetric (λ t. t.now) l.self.held (take l.name-index l.name-items) l.goals.entries
