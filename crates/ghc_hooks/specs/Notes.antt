-- Noted outcomes and untried goals.
use Rattle.std.specs.Prelude.{◌≡◌, ◌≢◌, ◌↔◌, false, Option, Some, None, IsTrue}
use Rattle.std.specs.FinMap as finite
use Rattle.std.specs.FinSet as set
use Rattle.ghc_term.specs.declared.var_name.VarName.{VarName}
use Rattle.ghc_term.specs.declared.goal_name.GoalName.{GoalName}
use Rattle.ghc_term.specs.Tree.{Tree}
use Rattle.ghc_term.specs.Goal.{Goal}
use Rattle.ghc_term.specs.Store.{StoreValue, value_at}
use Rattle.ghc_flat.specs.Clause.{Program}
use Rattle.ghc_flat.specs.Flat.{is_stream}
use Rattle.ghc_term.specs.Sets.{Variables, IsSetOf}
use Rattle.ghc_match.specs.Looked.{GoalLooksAt}
use Rattle.ghc_fire.specs.Goals.{goal_cmp, Goals}
use Rattle.ghc_hooks.specs.Status.{Status, waiting, HasStatus}
use Rattle.ghc_hooks.specs.Face.{GoalNames}

-- A note of a goal: the status that it had when it was tried, and what it looked at.
pub record Note : Type 0 where
  pub status : Status
  pub looked : Variables

-- The notes of a core, by goal.
abbrev pub NotesByGoal : Type 0
NotesByGoal = finite.FinMap goal_cmp Note

-- In the store S the note of the goal b says what a trial from scratch says.
abbrev pub IsExact : Program → (VarName → Option Tree) → Goal → Note → Type 0
IsExact P S b note = HasStatus P S b note.status × IsSetOf note.looked (GoalLooksAt P S b)

-- The goal named g is untried: it is there, no stream goal, and without a note.
abbrev pub IsUntried : Goals → NotesByGoal → GoalName → Type 0
IsUntried G notes g = (b : Goal) × (finite.get G g ≡ Some b) × (is_stream b ≡ false) × (finite.get notes g ≡ None)

-- Notes and untried goals fit the goals and the store: each note is exact and of a goal that is there and no stream goal, and the untried goals are those without a note.
pub record AreExact (P : Program) (G : Goals) (store : StoreValue) (notes : NotesByGoal) (untried : GoalNames) : Type 0 where
  pub noted : (g : GoalName) (note : Note) → finite.get notes g ≡ Some note
      → (b : Goal) × (finite.get G g ≡ Some b) × (is_stream b ≡ false) × IsExact P (value_at store) b note
  pub marked : (g : GoalName) → IsTrue (set.contains untried g) ↔ IsUntried G notes g

-- By its note, the goal named g waits, for x among others.
abbrev pub IsNotedOn : NotesByGoal → VarName → GoalName → Type 0
IsNotedOn notes x g =
    (note : Note) × (xs : Variables) × (finite.get notes g ≡ Some note) × (note.status ≡ waiting xs) × IsTrue (set.contains xs x)

-- After a change to the goals H that bound or freed the variables of which Touched holds, a note stays just where its goal is still there and did not look at one of these.
abbrev pub AreLeft : Goals → (VarName → Type 0) → NotesByGoal → NotesByGoal → Type 0
AreLeft H Touched old new =
    (g : GoalName) (note : Note) → (finite.get new g ≡ Some note)
    ↔ ((finite.get old g ≡ Some note) × (finite.get H g ≢ None) × ((x : VarName) → Touched x → ¬ IsTrue (set.contains note.looked x)))

-- The stores S and T agree on what the goal b looks at in S.
abbrev pub AgreeOnLooked : Program → Goal → (VarName → Option Tree) → (VarName → Option Tree) → Type 0
AgreeOnLooked P b S T = (x : VarName) → GoalLooksAt P S b x → S x ≡ T x
