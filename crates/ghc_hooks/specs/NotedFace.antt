-- The face of a state by its notes.
use Rattle.std.specs.Prelude.{◌≡◌, ◌↔◌, ◌⊎◌, ℕ, true, Some, IsTrue}
use Rattle.std.specs.FinMap as finite
use Rattle.std.specs.FinSet as set
use Rattle.ghc_term.specs.declared.var_name.VarName.{VarName}
use Rattle.ghc_term.specs.declared.goal_name.GoalName.{GoalName}
use Rattle.ghc_term.specs.declared.fault.Fault.{Fault}
use Rattle.ghc_term.specs.Goal.{Goal}
use Rattle.ghc_term.specs.Store.{StoreValue}
use Rattle.ghc_term.specs.Sets.{Variables}
use Rattle.ghc_flat.specs.Clause.{Program}
use Rattle.ghc_flat.specs.Flat.{is_stream}
use Rattle.ghc_match.specs.Match.{Outcome}
use Rattle.ghc_fire.specs.Goals.{Goals}
use Rattle.ghc_hooks.specs.Status.{Status, ready, waiting, failed, streaming}
use Rattle.ghc_hooks.specs.Face.{Face, ClauseSays}
use Rattle.ghc_hooks.specs.Notes.{NotesByGoal, Note, IsNotedOn}

-- By its note, the goal named g has the status s.
abbrev pub IsNotedAs : NotesByGoal → GoalName → Status → Type 0
IsNotedAs notes g s = (note : Note) × (finite.get notes g ≡ Some note) × (note.status ≡ s)

-- The goal named g is a stream goal, which has no note.
abbrev pub IsStreamGoal : Goals → GoalName → Type 0
IsStreamGoal G g = (b : Goal) × (finite.get G g ≡ Some b) × (is_stream b ≡ true)

-- The face shows the state as the notes have it: what clauses say is found from scratch, and how goals stand and for what they wait is as noted.
pub record IsNotedFace (P : Program) (G : Goals) (store : StoreValue) (notes : NotesByGoal) (face : Face) : Type 0 where
  pub same_goals : face.goals ≡ G
  pub same_store : face.store ≡ store
  pub outcomes : (g : GoalName) (k : ℕ) (o : Outcome) → (finite.get face.outcomes (g, k) ≡ Some o) ↔ ClauseSays P G store g k o
  pub statuses : (g : GoalName) (s : Status) → (finite.get face.statuses g ≡ Some s) ↔ (IsNotedAs notes g s ⊎ (IsStreamGoal G g × (s ≡ streaming)))
  pub hooks : (x : VarName) (g : GoalName) → IsTrue (set.contains face.hooks (x, g)) ↔ IsNotedOn notes x g
  pub ready_pool : (g : GoalName) → IsTrue (set.contains face.ready g) ↔ IsNotedAs notes g ready
  pub waiting_pool : (g : GoalName) → IsTrue (set.contains face.waiting g) ↔ ((xs : Variables) × IsNotedAs notes g (waiting xs))
  pub failed_pool : (g : GoalName) → IsTrue (set.contains face.failed g) ↔ ((f : Fault) × IsNotedAs notes g (failed f))
  pub streams : (g : GoalName) → IsTrue (set.contains face.streams g) ↔ IsStreamGoal G g
