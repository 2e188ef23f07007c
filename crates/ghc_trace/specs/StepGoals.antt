-- A step with the goal that it took, as it was written then.
use Rattle.std.specs.Prelude.{ℕ, List, [], ◌++◌, codes, Option, Some, None}
use Rattle.ghc_term.specs.Goal.{Goal}
use Rattle.ghc_term.specs.GoalText.{goal_text}
use Rattle.ghc_records.specs.Journal.{step_of}
use Rattle.ghc_records.specs.Record.{Record}
use Rattle.ghc_records.specs.StepText.{step_text}

-- the goal that a step took, as it was written then, after a space; nothing where it took none
abbrev pub goal_behind : Option Goal → List ℕ
goal_behind None = []
goal_behind (Some b) = codes " " ++ goal_text b

-- the step, and then the goal that it took, as `17 9.3 by 8 skip(_1_2)`
abbrev pub step_with_goal : Record → List ℕ
step_with_goal r = step_text (step_of r) ++ goal_behind r.consumed
