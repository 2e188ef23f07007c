-- Laws of statuses.
use Rattle.std.specs.Prelude.{◌≡◌, ◌↔◌, Option}
use Rattle.std.specs.FinSet as set
use Rattle.ghc_term.specs.declared.var_name.VarName.{VarName}
use Rattle.ghc_term.specs.Tree.{Tree}
use Rattle.ghc_term.specs.Goal.{Goal}
use Rattle.ghc_term.specs.Bindings.{IsAcyclic}
use Rattle.ghc_term.specs.Store.{StoreValue, value_at}
use Rattle.ghc_flat.specs.Clause.{Program}
use Rattle.ghc_flat.specs.Flat.{IsProgram}
use Rattle.ghc_match.specs.Looked.{GoalLooksAt}
use Rattle.ghc_fire.specs.Goals.{Goals}
use Rattle.ghc_hooks.specs.Status.{Status, Awaits, HasStatus}
use Rattle.ghc_hooks.specs.Face.{Face, GoalNames, IsFace}
use Rattle.ghc_hooks.specs.Notes.{Note, NotesByGoal, IsExact, AreExact, AgreeOnLooked}
use Rattle.ghc_hooks.specs.NotedFace.{IsNotedFace}
use Rattle.ghc_hooks.specs.Verdict.{AwaitsWhatItLooksAt}

-- In an acyclic store a goal has one status at most.
abbrev pub StatusIsOne : Type 0
StatusIsOne =
    (P : Program) (S : VarName → Option Tree) (g : Goal) (s t : Status) → IsAcyclic S → HasStatus P S g s → HasStatus P S g t → s ≡ t

-- In an acyclic finite store, under an accepted program, each goal has a status.
abbrev pub EachGoalHasAStatus : Type 0
EachGoalHasAStatus = (P : Program) (s : StoreValue) (g : Goal) → IsProgram P → IsAcyclic (value_at s) → (t : Status) × HasStatus P (value_at s) g t

-- Stores that agree on what a goal looks at give it one status.
abbrev pub StatusIsOfWhatIsLookedAt : Type 0
StatusIsOfWhatIsLookedAt =
    (P : Program) (S S' : VarName → Option Tree) (g : Goal) (s : Status) → HasStatus P S g s → AgreeOnLooked P g S S' → HasStatus P S' g s

-- A goal waits only for variables that it looks at.
abbrev pub GoalsWaitForWhatTheyLookAt : Type 0
GoalsWaitForWhatTheyLookAt = (P : Program) (S : VarName → Option Tree) (g : Goal) (x : VarName) → Awaits P S g x → GoalLooksAt P S g x

-- So does an exact note.
abbrev pub ExactNotesAwaitWhatIsLookedAt : Type 0
ExactNotesAwaitWhatIsLookedAt = (P : Program) (S : VarName → Option Tree) (g : Goal) (note : Note) → IsExact P S g note → AwaitsWhatItLooksAt note

-- In stores that agree on what a goal looks at it looks at the same.
abbrev pub LookedIsOfWhatIsLookedAt : Type 0
LookedIsOfWhatIsLookedAt =
    (P : Program) (S S' : VarName → Option Tree) (g : Goal) → AgreeOnLooked P g S S' → (x : VarName) → GoalLooksAt P S g x ↔ GoalLooksAt P S' g x

-- So a note that is exact in the one is exact in the other.
abbrev pub ExactNotesStayExact : Type 0
ExactNotesStayExact = (P : Program) (S S' : VarName → Option Tree) (g : Goal) (note : Note) → IsExact P S g note → AgreeOnLooked P g S S' → IsExact P S' g note

-- In an acyclic store, where notes are exact and no goal is untried, what the notes show is the face of the state.
abbrev pub SettledNotesShowTheFace : Type 0
SettledNotesShowTheFace =
    (P : Program) (G : Goals) (s : StoreValue) (notes : NotesByGoal) (untried : GoalNames) (face : Face)
    → IsAcyclic (value_at s) → AreExact P G s notes untried → untried ≡ set.empty → IsNotedFace P G s notes face ↔ IsFace P G s face

-- A state has one face.
abbrev pub FaceIsOne : Type 0
FaceIsOne = (P : Program) (G : Goals) (s : StoreValue) (one other : Face) → IsFace P G s one → IsFace P G s other → one ≡ other
