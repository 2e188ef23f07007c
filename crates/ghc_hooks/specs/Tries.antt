-- What the tries of goals say: the notes, the goals that are untried, and what becomes of both when variables are bound or freed.
use Rattle.std.specs.Prelude.{◌≡◌, ◌↔◌, ◌⊎◌, ℕ, Some, IsTrue}
use Rattle.std.specs.FinMap as finite
use Rattle.std.specs.FinSet as set
use Rattle.ghc_term.specs.declared.var_name.VarName.{VarName}
use Rattle.ghc_term.specs.declared.goal_name.GoalName.{GoalName}
use Rattle.ghc_hooks.specs.Face.{GoalNames}
use Rattle.ghc_hooks.specs.Notes.{Note, NotesByGoal}

-- The noted outcomes of goals, the goals that have none and are to be tried, and how many more goals can be marked untried without memory.
pub record Tries : Type 0 where
  pub notes : NotesByGoal
  pub untried : GoalNames
  pub room : ℕ

-- By its note, the goal named g looked at x when it was tried.
abbrev pub HasLookedAt : NotesByGoal → VarName → GoalName → Type 0
HasLookedAt notes x g = (note : Note) × (finite.get notes g ≡ Some note) × IsTrue (set.contains note.looked x)

-- Where the variables of which Touched holds were bound or freed, a note stays just where it looked at none of them.
abbrev pub AreSpared : (VarName → Type 0) → NotesByGoal → NotesByGoal → Type 0
AreSpared Touched old new =
    (g : GoalName) (note : Note) → (finite.get new g ≡ Some note)
    ↔ ((finite.get old g ≡ Some note) × ((x : VarName) → Touched x → ¬ IsTrue (set.contains note.looked x)))

-- And the untried goals are those untried before, and those whose note looked at one of them.
abbrev pub AreWoken : (VarName → Type 0) → NotesByGoal → GoalNames → GoalNames → Type 0
AreWoken Touched notes old new =
    (g : GoalName) → IsTrue (set.contains new g)
    ↔ (IsTrue (set.contains old g) ⊎ ((x : VarName) × Touched x × HasLookedAt notes x g))
