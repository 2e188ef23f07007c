-- The goals of a state, by name.
use Rattle.std.specs.FinMap as finite
use Rattle.ghc_term.specs.Goal.{Goal}
use Rattle.ghc_term.specs.GoalMap.{goal_cmp}
pub use Rattle.ghc_term.specs.GoalMap.{goal_cmp}

-- The goals of a state: each has a name.
abbrev pub Goals : Type 0
Goals = finite.FinMap goal_cmp Goal
