-- The text of all goals, a line each.
use Rattle.std.specs.Prelude.{◌≡◌, ◌<◌, ℕ, true, false, List, ◌++◌, length, codes, Some}
use Rattle.std.specs.List.{AllZip, concat}
use Rattle.std.specs.FinMap as finite
use Rattle.ghc_term.specs.declared.goal_name.GoalName.{GoalName}
use Rattle.ghc_term.specs.Goal.{Goal}
use Rattle.ghc_term.specs.GoalText.{IsGoalTextOf}
use Rattle.ghc_term.specs.Store.{StoreValue, value_at}
use Rattle.ghc_flat.specs.Flat.{is_stream}
use Rattle.ghc_fire.specs.Goals.{Goals}
use Rattle.ghc_records.specs.StepText.{goal_name_text}
use Rattle.ghc_hooks.specs.Status.{Status, streaming}
use Rattle.ghc_hooks.specs.Notes.{Note, NotesByGoal}
use Rattle.ghc_core.specs.World.{World}
use Rattle.ghc_trace.specs.News.{Stands, status_text}

-- a goal with its name
abbrev pub Named : Type 0
Named = GoalName × Goal

-- the line of a goal of this name, this status and this text, as `0.1 waits _0_1 append(_0_1,_0_2)`
abbrev pub goal_line : GoalName → Status → List ℕ → List ℕ
goal_line g s text = goal_name_text g ++ (codes " " ++ (status_text s ++ (codes " " ++ (text ++ codes "\n"))))

-- The line tells the goal: its name, a status that it has, and its text in the store.
pub record TellsGoal (Has : Named → Status → Type 0) (store : StoreValue) (goal : Named) (line : List ℕ) : Type 0 where
  pub status : Status
  pub has : Has goal status
  pub text : List ℕ
  pub shown : IsGoalTextOf (value_at store) goal.1 text
  pub written : line ≡ goal_line goal.0 status text

-- The text is a line for each of the goals, by name.
abbrev pub TellsGoals : (Named → Status → Type 0) → Goals → StoreValue → List ℕ → Type 0
TellsGoals Has goals store text = (lines : List (List ℕ)) × AllZip (TellsGoal Has store) (finite.entries goals) lines × (text ≡ concat lines)

-- The line tells the goal b, named g, with its status in the world.
abbrev pub IsGoalLineOf : World → GoalName → Goal → List ℕ → Type 0
IsGoalLineOf w g b line = TellsGoal (λ goal s. Stands w goal.0 s) w.state.store (g, b) line

-- The text is a line for each goal of the world, by name, with its status there.
abbrev pub AreGoalLines : World → List ℕ → Type 0
AreGoalLines w text = TellsGoals (λ goal s. Stands w goal.0 s) w.state.goals w.state.store text

-- StandsByNote notes goal s: a stream goal is a stream, and any other goal has the status of its note.
pub data StandsByNote (notes : NotesByGoal) : Named → Status → Type 0 where
  as_stream : {goal : Named} → is_stream goal.1 ≡ true → StandsByNote notes goal streaming
  as_noted : {goal : Named} {note : Note} → is_stream goal.1 ≡ false → finite.get notes goal.0 ≡ Some note → StandsByNote notes goal note.status

-- The text is a line for each of the goals, by name, with its status by these notes.
abbrev pub AreLinesByNotes : NotesByGoal → Goals → StoreValue → List ℕ → Type 0
AreLinesByNotes notes goals store text = TellsGoals (StandsByNote notes) goals store text

-- the most bytes of a printed goal
abbrev pub print_limit : ℕ
print_limit = 1048576

-- The text of the goal in the store has more bytes than are printed.
abbrev pub IsTooLong : StoreValue → Goal → Type 0
IsTooLong store b = (text : List ℕ) × IsGoalTextOf (value_at store) b text × (print_limit < length text)

-- One of the goals is too long.
abbrev pub HasTooLong : Goals → StoreValue → Type 0
HasTooLong goals store = (g : GoalName) × (b : Goal) × (finite.get goals g ≡ Some b) × IsTooLong store b
