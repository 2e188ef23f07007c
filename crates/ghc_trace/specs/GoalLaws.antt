-- Laws of the lines of goals.
use Rattle.std.specs.Prelude.{◌≡◌, ◌↔◌, ℕ, List, []}
use Rattle.std.specs.FinMap as finite
use Rattle.ghc_hooks.specs.Notes.{NotesByGoal}
use Rattle.ghc_core.specs.World.{World}
use Rattle.ghc_trace.specs.Laws.{IsSettled}
use Rattle.ghc_trace.specs.GoalLines.{AreGoalLines, AreLinesByNotes}

-- Where no goal is untried, the lines by the notes are those of the world.
abbrev pub NotesTellGoals : Type 0
NotesTellGoals =
    (w : World) (notes : NotesByGoal) (text : List ℕ) → IsSettled w notes → AreLinesByNotes notes w.state.goals w.state.store text → AreGoalLines w text

-- There is no line just where there is no goal.
abbrev pub LinesAreOfGoals : Type 0
LinesAreOfGoals = (w : World) (text : List ℕ) → AreGoalLines w text → (text ≡ []) ↔ (w.state.goals ≡ finite.empty)
