-- Why a reply is about nothing.
use Rattle.std.specs.Prelude.{◌≡◌, ◌<◌, ℕ, List, length, Some, None}
use Rattle.std.specs.FinMap as finite
use Rattle.ghc_term.specs.declared.var_name.VarName.{VarName}
use Rattle.ghc_term.specs.declared.goal_name.GoalName.{GoalName}
use Rattle.ghc_term.specs.declared.fault.Fault.{Fault}
use Rattle.ghc_term.specs.declared.limit.Limit.TheVariants as limit
use Rattle.ghc_term.specs.Goal.{Goal}
use Rattle.ghc_term.specs.Tree.{variable}
use Rattle.ghc_term.specs.Store.{value_at}
use Rattle.ghc_term.specs.Resolved.{IsTextOf}
use Rattle.ghc_core.specs.World.{World}
use Rattle.ghc_trace.specs.GoalLines.{IsTooLong, print_limit}
use Rattle.ghc_console.specs.VariableNamed.{IsVariableNamed}

-- IsValueRefusal w word f: the word names no variable, or the term to which its variable leads is too long.
pub data IsValueRefusal (w : World) (word : List ℕ) : Fault → Type 0 where
  names_none : ((x : VarName) → ¬ IsVariableNamed w word x) → IsValueRefusal w word Fault.NoVariable
  names_a_long_one : (x : VarName) (text : List ℕ) → IsVariableNamed w word x → IsTextOf (value_at w.state.store) (variable x) text → print_limit < length text
      → IsValueRefusal w word (Fault.Limit limit.Print)

-- IsGoalRefusal w g f: there is no goal named g, or its text is too long.
pub data IsGoalRefusal (w : World) (g : GoalName) : Fault → Type 0 where
  is_not_there : finite.get w.state.goals g ≡ None → IsGoalRefusal w g Fault.NoGoal
  is_a_long_one : (b : Goal) → finite.get w.state.goals g ≡ Some b → IsTooLong w.state.store b → IsGoalRefusal w g (Fault.Limit limit.Print)
