-- What a run does.
use Rattle.std.specs.Prelude.{ℕ, Bool, true, false, Option, Some, None}
use Rattle.ghc_term.specs.declared.goal_name.GoalName.{GoalName}
use Rattle.ghc_pool.specs.declared.mode.Mode.{Mode}
use Rattle.ghc_pool.specs.declared.mode.Mode.TheVariants.{Leap, Skip, Settle}

-- whether steps are taken
abbrev pub takes_steps : Mode → Bool
takes_steps (Leap limit) = true
takes_steps (Skip root limit) = true
takes_steps Settle = false

-- how many steps are taken at most
abbrev pub limit_of : Mode → ℕ
limit_of (Leap limit) = limit
limit_of (Skip root limit) = limit
limit_of Settle = 0

-- the goal from which those descend of which steps are taken, if one is named
abbrev pub root_of : Mode → Option GoalName
root_of (Leap limit) = None
root_of (Skip root limit) = Some root
root_of Settle = None
