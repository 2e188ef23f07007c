-- The lines that tell what a call was given, and what it gave.
use Rattle.std.specs.Prelude.{◌≡◌, ◌⊎◌, ◌≤◌, ◌+◌, ℕ, List, [], ◌∷◌, ◌++◌, codes, length, Some}
use Rattle.std.specs.Fmt.{decimal}
use Rattle.std.specs.FinMap as finite
use Rattle.ghc_term.specs.declared.goal_name.GoalName.{GoalName}
use Rattle.ghc_term.specs.declared.var_name.VarName.{VarName}
use Rattle.ghc_term.specs.Expression.{Expression}
use Rattle.ghc_term.specs.Goal.{Goal, call, unify, assign, stream}
use Rattle.ghc_term.specs.GoalText.{IsGoalTextOf, goal_text}
use Rattle.ghc_term.specs.Lists.{In}
use Rattle.ghc_term.specs.Store.{StoreValue, value_at}
use Rattle.ghc_term.specs.Tree.{Tree}
use Rattle.ghc_records.specs.Journal.{step_of}
use Rattle.ghc_records.specs.Orders.{Picks}
use Rattle.ghc_records.specs.Record.{Record, numbers}
use Rattle.ghc_records.specs.StepText.{goal_name_text, step_text}
use Rattle.ghc_depend.specs.Deletion.{IsConsumedIn}
use Rattle.ghc_hooks.specs.Status.{Status}
use Rattle.ghc_core.specs.World.{World}
use Rattle.ghc_trace.specs.GoalLines.{IsTooLong, print_limit}
use Rattle.ghc_trace.specs.News.{Stands, status_text}
use Rattle.ghc_depend.specs.Parts.{GoesInTurns, IsReachedInto}
use Rattle.ghc_trace.specs.Parts.{IsStoreGiven}

-- The text is that of the goal in the store, and no longer than is printed.
abbrev pub IsShown : StoreValue → Goal → List ℕ → Type 0
IsShown store b text = IsGoalTextOf (value_at store) b text × (length text ≤ print_limit)

-- a line for each step that asks, as `asked 4`
abbrev pub asked_lines : List ℕ → List ℕ
asked_lines [] = []
asked_lines (n ∷ ns) = codes "asked " ++ (decimal n ++ (codes "\n" ++ asked_lines ns))

-- The text is the line `in turns` where what the goal was given and what it gave went in turns, and else nothing.
abbrev pub TellsTurns : World → GoalName → Goal → List ℕ → Type 0
TellsTurns w g b text =
    (GoesInTurns w.kept (value_at w.state.store) g b × (text ≡ codes "in turns\n")) ⊎ ((¬ GoesInTurns w.kept (value_at w.state.store) g b) × (text ≡ []))

-- The text tells what the goal b, named g, was given: the goal in the store of that, the asks that reach into its part, and whether it went in turns.
pub record TellsGiven (w : World) (g : GoalName) (b : Goal) (text : List ℕ) : Type 0 where
  pub store : StoreValue
  pub was_given : IsStoreGiven w.kept w.state g b store
  pub shown : List ℕ
  pub shows : IsShown store b shown
  pub asks : List Record
  pub reaching : Picks (IsReachedInto w.kept g) w.kept asks
  pub turns : List ℕ
  pub in_turns : TellsTurns w g b turns
  pub written : text ≡ codes "given " ++ (shown ++ (codes "\n" ++ (asked_lines (numbers asks) ++ turns)))

-- the line of a goal that was made, as `2.1 gave p(1)`
abbrev pub made_line : GoalName → List ℕ → List ℕ → List ℕ
made_line h word text = goal_name_text h ++ (word ++ (text ++ codes "\n"))

-- TellsMade w h b line: the line tells the goal b, named h, which a kept step made. A call is told in the store, with `gave` where a step took it and `stands` where it is there; another goal as it is written.
pub data TellsMade (w : World) (h : GoalName) : Goal → List ℕ → Type 0 where
  gave : {f : List ℕ} {ts : List Tree} {text : List ℕ} → IsConsumedIn w.kept h → IsShown w.state.store (call f ts) text → TellsMade w h (call f ts) (made_line h (codes " gave ") text)
  stands : {f : List ℕ} {ts : List Tree} {text : List ℕ} → finite.get w.state.goals h ≡ Some (call f ts) → IsShown w.state.store (call f ts) text
      → TellsMade w h (call f ts) (made_line h (codes " stands ") text)
  equation : {l r : Tree} → TellsMade w h (unify l r) (made_line h (codes " ") (goal_text (unify l r)))
  assignment : {t : Tree} {e : Expression} → TellsMade w h (assign t e) (made_line h (codes " ") (goal_text (assign t e)))
  a_stream : {k : ℕ} {x : VarName} → TellsMade w h (stream k x) (made_line h (codes " ") (goal_text (stream k x)))

-- AreMadeLines w n bs text: the text is a line for each of the goals that the kept step n made, by place.
pub data AreMadeLines (w : World) (n : ℕ) : List Goal → List ℕ → Type 0 where
  none_made : AreMadeLines w n [] []
  and_made : {bs : List Goal} {text : List ℕ} (b : Goal) (line : List ℕ) → AreMadeLines w n bs text → TellsMade w (record { step = n; place = length bs + 1 }) b line
      → AreMadeLines w n (bs ++ b ∷ []) (text ++ line)

-- The text tells what the goal b gave, which the step r took: the goal in the store, a line for each goal that the step made, and the step.
abbrev pub TellsGave : World → Goal → Record → List ℕ → Type 0
TellsGave w b r text =
    (shown made : List ℕ) × IsShown w.state.store b shown × AreMadeLines w r.number r.effect.makes made
    × (text ≡ codes "gave " ++ (shown ++ (codes "\n" ++ (made ++ (step_text (step_of r) ++ codes "\n")))))

-- The text is the line of a goal that is there, with its status, as `0.1 waits _0_1`.
abbrev pub TellsStatus : World → GoalName → List ℕ → Type 0
TellsStatus w g text = (s : Status) × Stands w g s × (text ≡ goal_name_text g ++ (codes " " ++ (status_text s ++ codes "\n")))

-- TellsCall w g b text: the text tells what the goal b, named g, was given, and what it gave, where the kept step r took it; or its status, where it is there.
pub data TellsCall (w : World) (g : GoalName) (b : Goal) : List ℕ → Type 0 where
  taken : {given gave : List ℕ} (r : Record) → In r w.kept → r.goal ≡ Some g → r.consumed ≡ Some b → TellsGiven w g b given → TellsGave w b r gave → TellsCall w g b (given ++ gave)
  standing : {given status : List ℕ} → finite.get w.state.goals g ≡ Some b → TellsGiven w g b given → TellsStatus w g status → TellsCall w g b (given ++ status)

-- HasTooLongText w g b: a text that would tell of the goal b, named g, has more bytes than are printed: that of what it was given; where a step took it, that of what it gave; or that of a call which that step made.
pub data HasTooLongText (w : World) (g : GoalName) (b : Goal) : Type 0 where
  given_too_long : (store : StoreValue) → IsStoreGiven w.kept w.state g b store → IsTooLong store b → HasTooLongText w g b
  gave_too_long : IsConsumedIn w.kept g → IsTooLong w.state.store b → HasTooLongText w g b
  made_too_long : (r : Record) (f : List ℕ) (ts : List Tree) → In r w.kept → r.goal ≡ Some g → In (call f ts) r.effect.makes → IsTooLong w.state.store (call f ts)
      → HasTooLongText w g b
