-- What the tries keep beside notes and marks: for each variable the goals whose notes looked at it.
use Rattle.std.specs.Prelude.{◌≡◌, ◌↔◌, ◌⊎◌, ◌≤◌, Bool, Option, Some, None, IsTrue}
use Rattle.std.specs.FinMap as finite
use Rattle.std.specs.FinSet as set
use Rattle.ghc_term.specs.declared.var_name.VarName.{VarName}
use Rattle.ghc_term.specs.declared.goal_name.GoalName.{GoalName}
use Rattle.ghc_term.specs.Bindings.{name_cmp}
use Rattle.ghc_term.specs.Table.{Table}
use Rattle.ghc_hooks.specs.Face.{GoalNames}
use Rattle.ghc_hooks.specs.Notes.{NotesByGoal}
use Rattle.ghc_hooks.specs.Tries.{HasLookedAt}

-- Goals by variable: the sets of goals under some, and single goals, which count where there is no set.
pub record GoalsByVariable : Type 0 where
  pub several : finite.FinMap name_cmp GoalNames
  pub single : finite.FinMap name_cmp GoalName

-- the goals of the set, or where there is no set the single goal, if any
abbrev pub goals_in : Option GoalNames → Option GoalName → GoalNames
goals_in (Some gs) o = gs
goals_in None (Some g) = set.insert set.empty g
goals_in None None = set.empty

-- the goals under the variable x
abbrev pub goals_under : GoalsByVariable → VarName → GoalNames
goals_under m x = goals_in (finite.get m.several x) (finite.get m.single x)

-- whether the goal g stands under the variable x
abbrev pub looks : GoalsByVariable → VarName → GoalName → Bool
looks m x g = set.contains (goals_under m x) g

-- The goal g stands under x besides, or it does no more.
abbrev pub HasOneMore : VarName → GoalName → GoalsByVariable → GoalsByVariable → Type 0
HasOneMore x g old new = (y : VarName) (h : GoalName) → IsTrue (looks new y h) ↔ (IsTrue (looks old y h) ⊎ ((y ≡ x) × (h ≡ g)))

-- The goal g stands under x no more, and every other goal stands where it stood.
abbrev pub HasOneLess : VarName → GoalName → GoalsByVariable → GoalsByVariable → Type 0
HasOneLess x g old new = (y : VarName) (h : GoalName) → IsTrue (looks new y h) ↔ (IsTrue (looks old y h) × ¬ ((y ≡ x) × (h ≡ g)))

-- The parts of tries fit each other: no goal is both noted and untried, under each variable stand just the goals whose notes looked at it, and there is room to mark each noted goal untried.
pub record FitEachOther (notes : NotesByGoal) (untried : Table GoalNames) (by_variable : GoalsByVariable) : Type 0 where
  pub apart : (g : GoalName) → IsTrue (set.contains untried.held g) → finite.get notes g ≡ None
  pub follows : (x : VarName) (g : GoalName) → IsTrue (looks by_variable x g) ↔ HasLookedAt notes x g
  pub room : finite.len notes ≤ untried.room
