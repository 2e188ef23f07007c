-- Two maps of goals with one code are one.
use Rattle.std.specs.Coded.{Coded}
use Rattle.std.specs.FinMap as finite
use Rattle.ghc_term.specs.inner.GoalCode.{goal_code}
use Rattle.ghc_term.specs.GoalMap.{goal_name_code}
use Rattle.ghc_fire.specs.Goals.{Goals}
pub use Rattle.ghc_term.specs.GoalMap.{goal_name_code}

-- the code of the goals of a state with their names, which no other such map has
abbrev pub goals_code : Coded Goals
goals_code = finite.code goal_name_code goal_code
