-- What is written of goals one after another.
use Rattle.std.specs.Prelude.{◌≡◌, ◌≢◌, ℕ, false, List, ◌++◌, map, None}
use Rattle.std.specs.Borrow.{Bor}
use Rattle.std.specs.List.{AllZip, concat}
use Rattle.std.specs.FinMap as finite
use Rattle.ghc_term.specs.declared.goal_name.GoalName.{GoalName}
use Rattle.ghc_term.specs.Goal.{Goal}
use Rattle.ghc_term.specs.Store.{StoreValue}
use Rattle.ghc_flat.specs.Flat.{is_stream}
use Rattle.ghc_hooks.specs.Notes.{NotesByGoal}
use Rattle.ghc_trace.specs.GoalLines.{Named, TellsGoal, StandsByNote, IsTooLong}

-- the goals that are lent with their names
abbrev pub lent : List (GoalName × Bor Goal) → List Named
lent es = map (λ e. (e.0, e.1.now)) es

-- The goal has a note, or is a stream.
abbrev pub IsKnown : NotesByGoal → Named → Type 0
IsKnown notes goal = is_stream goal.1 ≡ false → finite.get notes goal.0 ≢ None

-- The line tells the goal, with its status by these notes, and the goal is not too long.
pub record TellsShort (notes : NotesByGoal) (store : StoreValue) (goal : Named) (line : List ℕ) : Type 0 where
  pub tells : TellsGoal (StandsByNote notes) store goal line
  pub short : ¬ IsTooLong store goal.1

-- Behind the old text stands the line of the goal.
abbrev pub AddsLine : NotesByGoal → StoreValue → Named → List ℕ → List ℕ → Type 0
AddsLine notes store goal old new = (line : List ℕ) × TellsShort notes store goal line × (new ≡ old ++ line)

-- Behind the old text stand the lines of the goals.
abbrev pub AddsLines : NotesByGoal → StoreValue → List Named → List ℕ → List ℕ → Type 0
AddsLines notes store goals old new = (lines : List (List ℕ)) × AllZip (TellsShort notes store) goals lines × (new ≡ old ++ concat lines)
