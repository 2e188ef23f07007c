-- What the tries keep of the goals that do not wait: those that are not yet in order, and the others, by whether they are ready or have failed.
use Rattle.std.specs.Prelude.{◌≡◌, ◌↔◌, ◌⊎◌, Some, IsTrue}
use Rattle.std.specs.FinMap as finite
use Rattle.std.specs.FinSet as set
use Rattle.std.specs.BTreeSet.{BTreeSet, contains}
use Rattle.ghc_term.specs.declared.fault.Fault.{Fault}
use Rattle.ghc_term.specs.declared.goal_name.GoalName.{GoalName}
use Rattle.ghc_fire.specs.Goals.{goal_cmp}
use Rattle.ghc_hooks.specs.Notes.{Note, NotesByGoal}
use Rattle.ghc_hooks.specs.NotedFace.{IsNotedAs}
use Rattle.ghc_hooks.specs.Status.{IsNoWait, ready, failed}
use Rattle.ghc_hooks.specs.declared.unblocked.Unblocked.{Unblocked}

-- By its note, the goal named g does not wait: it is ready or has failed.
abbrev pub IsUnblocked : NotesByGoal → GoalName → Type 0
IsUnblocked notes g = (note : Note) × (finite.get notes g ≡ Some note) × IsNoWait note.status

-- The goal named g is in order.
abbrev pub IsSorted : Unblocked → GoalName → Type 0
IsSorted u g = IsTrue (contains goal_cmp u.ready g) ⊎ IsTrue (contains goal_cmp u.failed g)

-- The goal named g is kept, be it in order or not.
abbrev pub IsAmong : Unblocked → GoalName → Type 0
IsAmong u g = IsTrue (set.contains u.unsorted.held g) ⊎ IsSorted u g

-- These are the goals that by their notes do not wait. Those in order stand with the ready ones or the failed ones, as their notes say, and nowhere else.
pub record AreUnblocked (notes : NotesByGoal) (u : Unblocked) : Type 0 where
  pub all : (g : GoalName) → IsAmong u g ↔ IsUnblocked notes g
  pub ready_ones : (g : GoalName) → IsTrue (contains goal_cmp u.ready g) → IsNotedAs notes g ready
  pub failed_ones : (g : GoalName) → IsTrue (contains goal_cmp u.failed g) → (f : Fault) × IsNotedAs notes g (failed f)
  pub once : (g : GoalName) → IsTrue (set.contains u.unsorted.held g) → ¬ IsSorted u g

-- The goal g is put into the order.
abbrev pub SortsIn : GoalName → BTreeSet GoalName → BTreeSet GoalName → Type 0
SortsIn g old new = (h : GoalName) → IsTrue (contains goal_cmp new h) ↔ (IsTrue (contains goal_cmp old h) ⊎ (h ≡ g))

-- It is taken out of the order.
abbrev pub SortsOut : GoalName → BTreeSet GoalName → BTreeSet GoalName → Type 0
SortsOut g old new = (h : GoalName) → IsTrue (contains goal_cmp new h) ↔ (IsTrue (contains goal_cmp old h) × ¬ (h ≡ g))
