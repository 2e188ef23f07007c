-- How `explain` tells where a value comes from, or why a goal stands as it does.
use Rattle.std.specs.Prelude.{◌≡◌, ◌<◌, ◌≤◌, ℕ, List, ◌++◌, codes, length, Some, None}
use Rattle.std.specs.Fmt.{decimal}
use Rattle.std.specs.FinMap as finite
use Rattle.ghc_term.specs.declared.var_name.VarName.{VarName}
use Rattle.ghc_term.specs.declared.goal_name.GoalName.{GoalName}
use Rattle.ghc_term.specs.declared.fault.Fault.{Fault}
use Rattle.ghc_term.specs.declared.limit.Limit.TheVariants as limit
use Rattle.ghc_term.specs.Goal.{Goal}
use Rattle.ghc_term.specs.Tree.{variable}
use Rattle.ghc_term.specs.Store.{value_at}
use Rattle.ghc_term.specs.Resolved.{IsTextOf}
use Rattle.ghc_records.specs.Record.{Record}
use Rattle.ghc_core.specs.World.{World}
use Rattle.ghc_trace.specs.declared.holding.Holder.{Holder}
use Rattle.ghc_trace.specs.Causes.{IsToldGoalSliceOf, IsToldSliceOf}
use Rattle.ghc_trace.specs.Explaining.{AreHolderLines, AreStepLines}
use Rattle.ghc_trace.specs.GoalLines.{IsGoalLineOf, IsTooLong, print_limit}
use Rattle.ghc_trace.specs.Holding.{AreHolders, AreHoldersFor}
use Rattle.ghc_console.specs.TextLines.{lined, refusal}
use Rattle.ghc_console.specs.VariableNamed.{IsVariableNamed}

-- the last line: how many of the kept steps the slice has, as `steps 3 of 6`
abbrev pub steps_line : List ℕ → List Record → List ℕ
steps_line slice kept = codes "steps " ++ (decimal (length slice) ++ (codes " of " ++ (decimal (length kept) ++ codes "\n")))

-- RepliesToExplain w word text: the text has the variable that the word names, with the term to which it leads. It has a line for each goal that holds an unbound variable of that term, then one for each step of its slice, with the other clauses by which it could have been, and how many steps these are. Or it is the refusal, where the word names none, or the term is too long.
pub data RepliesToExplain (w : World) (word : List ℕ) : List ℕ → Type 0 where
  explains : (x : VarName) (term held steps slice : List ℕ) (hs : List Holder) → IsVariableNamed w word x → IsTextOf (value_at w.state.store) (variable x) term → length term ≤ print_limit
      → AreHolders w.state x hs → AreHolderLines w hs held → IsToldSliceOf w.kept w.state x slice → AreStepLines w slice steps
      → RepliesToExplain w word (lined (word ++ (codes " = " ++ term)) ++ (held ++ (steps ++ steps_line slice w.kept)))
  too_long_to_explain : (x : VarName) (term : List ℕ) → IsVariableNamed w word x → IsTextOf (value_at w.state.store) (variable x) term → print_limit < length term
      → RepliesToExplain w word (refusal (Fault.Limit limit.Print))
  explains_nothing : ((x : VarName) → ¬ IsVariableNamed w word x) → RepliesToExplain w word (refusal Fault.NoVariable)

-- TellsOrigin w g b text: the text is a line for each other goal that holds a variable for which the goal b, named g, waits; a line for each step of its slice, with the other clauses by which it could have been; and how many steps these are.
pub data TellsOrigin (w : World) (g : GoalName) (b : Goal) : List ℕ → Type 0 where
  tells_origin : (held steps slice : List ℕ) (hs : List Holder) → AreHoldersFor w g hs → AreHolderLines w hs held → IsToldGoalSliceOf w.opening.program w.kept w.state g b slice → AreStepLines w slice steps
      → TellsOrigin w g b (held ++ (steps ++ steps_line slice w.kept))

-- RepliesToExplainGoal w g text: the line of the goal named g, who else holds what it waits for, and its slice. Or the refusal where there is no such goal, or its text is too long.
pub data RepliesToExplainGoal (w : World) (g : GoalName) : List ℕ → Type 0 where
  explains_goal : (b : Goal) (line origin : List ℕ) → finite.get w.state.goals g ≡ Some b → IsGoalLineOf w g b line → ¬ IsTooLong w.state.store b → TellsOrigin w g b origin
      → RepliesToExplainGoal w g (line ++ origin)
  goal_is_too_long : (b : Goal) → finite.get w.state.goals g ≡ Some b → IsTooLong w.state.store b → RepliesToExplainGoal w g (refusal (Fault.Limit limit.Print))
  explains_no_goal : finite.get w.state.goals g ≡ None → RepliesToExplainGoal w g (refusal Fault.NoGoal)
