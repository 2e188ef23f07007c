-- How `whynot` tells why a variable is not bound, or why a goal waits.
use Rattle.std.specs.Prelude.{◌≡◌, ◌<◌, ◌≤◌, ℕ, List, ◌++◌, codes, length, Some, None}
use Rattle.std.specs.FinMap as finite
use Rattle.ghc_term.specs.declared.var_name.VarName.{VarName}
use Rattle.ghc_term.specs.declared.goal_name.GoalName.{GoalName}
use Rattle.ghc_term.specs.declared.fault.Fault.{Fault}
use Rattle.ghc_term.specs.declared.limit.Limit.TheVariants as limit
use Rattle.ghc_term.specs.Goal.{Goal}
use Rattle.ghc_term.specs.Tree.{variable}
use Rattle.ghc_term.specs.Store.{value_at}
use Rattle.ghc_term.specs.Resolved.{IsTextOf}
use Rattle.ghc_core.specs.World.{World}
use Rattle.ghc_trace.specs.GoalLines.{IsGoalLineOf, IsTooLong, print_limit}
use Rattle.ghc_trace.specs.Holding.{IsUnboundIn}
use Rattle.ghc_trace.specs.WhyNot.{IsAwaitedBy, TellsWhyNot}
use Rattle.ghc_console.specs.TextLines.{lined, refusal}
use Rattle.ghc_console.specs.VariableNamed.{IsVariableNamed}

-- RepliesToWhyNot w word text: the text has the variable that the word names, with the term to which it leads, and tells why the unbound variables of that term are not bound. Or it is the refusal, where the word names none, or the term is too long.
pub data RepliesToWhyNot (w : World) (word : List ℕ) : List ℕ → Type 0 where
  asks_why_not : (x : VarName) (term told : List ℕ) → IsVariableNamed w word x → IsTextOf (value_at w.state.store) (variable x) term → length term ≤ print_limit
      → TellsWhyNot w (IsUnboundIn (value_at w.state.store) x) told → RepliesToWhyNot w word (lined (word ++ (codes " = " ++ term)) ++ told)
  too_long_to_ask : (x : VarName) (term : List ℕ) → IsVariableNamed w word x → IsTextOf (value_at w.state.store) (variable x) term → print_limit < length term
      → RepliesToWhyNot w word (refusal (Fault.Limit limit.Print))
  asks_of_nothing : ((x : VarName) → ¬ IsVariableNamed w word x) → RepliesToWhyNot w word (refusal Fault.NoVariable)

-- RepliesToWhyNotGoal w g text: the line of the goal named g, and why the variables for which it waits are not bound. Or the refusal where there is no such goal, or its text is too long.
pub data RepliesToWhyNotGoal (w : World) (g : GoalName) : List ℕ → Type 0 where
  asks_why_it_waits : (b : Goal) (line told : List ℕ) → finite.get w.state.goals g ≡ Some b → IsGoalLineOf w g b line → ¬ IsTooLong w.state.store b
      → TellsWhyNot w (IsAwaitedBy w g) told → RepliesToWhyNotGoal w g (line ++ told)
  waiting_goal_is_too_long : (b : Goal) → finite.get w.state.goals g ≡ Some b → IsTooLong w.state.store b → RepliesToWhyNotGoal w g (refusal (Fault.Limit limit.Print))
  asks_of_no_goal : finite.get w.state.goals g ≡ None → RepliesToWhyNotGoal w g (refusal Fault.NoGoal)
