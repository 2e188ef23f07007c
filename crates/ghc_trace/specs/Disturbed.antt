-- The goals to which a change of the state may give another status, and how they were stuck before.
use Rattle.std.specs.Prelude.{◌≡◌, ◌≢◌, ◌↔◌, ◌⊎◌, List, Option, Some, None, IsTrue}
use Rattle.std.specs.FinMap as finite
use Rattle.std.specs.FinSet as set
use Rattle.std.specs.declared.cmp.Ordering.TheVariants.{Less}
use Rattle.ghc_term.specs.declared.var_name.VarName.{VarName}
use Rattle.ghc_term.specs.declared.goal_name.GoalName.{GoalName}
use Rattle.ghc_term.specs.Fault.{fault_number}
use Rattle.ghc_term.specs.Lists.{In}
use Rattle.ghc_fire.specs.Goals.{goal_cmp}
use Rattle.ghc_records.specs.Orders.{Precedes}
use Rattle.ghc_records.specs.Record.{Record}
use Rattle.ghc_depend.specs.Depend.{Binds}
use Rattle.ghc_hooks.specs.Status.{Status, ready, waiting, failed, streaming}
use Rattle.ghc_hooks.specs.Notes.{Note, NotesByGoal}
use Rattle.ghc_hooks.specs.Tries.{HasLookedAt}
use Rattle.ghc_trace.specs.News.{IsStuck, Standing}
use Rattle.ghc_trace.specs.declared.stuck.Stuck.{Stuck}
use Rattle.ghc_trace.specs.declared.stuck.Stuck.TheVariants.{Waiting, Failed}

-- how a goal of this status is stuck, if it is
abbrev pub stuck_of : Status → Option Stuck
stuck_of ready = None
stuck_of (waiting xs) = Some (Waiting xs)
stuck_of (failed f) = Some (Failed (fault_number f))
stuck_of streaming = None

-- how the goal of this note, if there is one, is stuck
abbrev pub stuck_by : Option Note → Option Stuck
stuck_by None = None
stuck_by (Some note) = stuck_of note.status

-- Goals by name, each with how it was stuck.
abbrev pub Disturbed : Type 0
Disturbed = finite.FinMap goal_cmp (Option Stuck)

-- The goal named g is one of them.
abbrev pub IsOneOf : Disturbed → GoalName → Type 0
IsOneOf d g = IsTrue (finite.contains_key d g)

-- Each is stuck as its note says.
abbrev pub AreAsNoted : NotesByGoal → Disturbed → Type 0
AreAsNoted notes d = (g : GoalName) (before : Option Stuck) → finite.get d g ≡ Some before → before ≡ stuck_by (finite.get notes g)

-- The note of the goal named g looked at one of the variables of which Touched holds.
abbrev pub LooksWhere : NotesByGoal → (VarName → Type 0) → GoalName → Type 0
LooksWhere notes Touched g = (x : VarName) × Touched x × HasLookedAt notes x g

-- A change binds or frees the variables of which Touched holds, and brings the goals Brought. These are the goals that by these notes looked at one of the variables, and those brought, each with how it is stuck by its note.
pub record AreDisturbed (notes : NotesByGoal) (Touched : VarName → Type 0) (Brought : GoalName → Type 0) (d : Disturbed) : Type 0 where
  pub members : (g : GoalName) → IsOneOf d g ↔ (LooksWhere notes Touched g ⊎ Brought g)
  pub as_noted : AreAsNoted notes d

-- Being stuck so, a goal waits for a variable that the step binds.
abbrev pub WaitsWhereBound : Record → Option Stuck → Type 0
WaitsWhereBound r None = ⊥
WaitsWhereBound r (Some (Waiting xs)) = (x : VarName) × IsTrue (set.contains xs x) × Binds r x
WaitsWhereBound r (Some (Failed n)) = ⊥

-- These are the goals that waited for a variable that the step binds, by name.
pub record AreResumedBy (r : Record) (d : Disturbed) (names : List GoalName) : Type 0 where
  pub each : (g : GoalName) → In g names ↔ ((before : Option Stuck) × (finite.get d g ≡ Some before) × WaitsWhereBound r before)
  pub ordered : (g h : GoalName) → Precedes names g h → goal_cmp g h ≡ Less

-- A goal that was stuck so, if it was, is stuck otherwise by the note that it has now, if it has one.
abbrev pub IsStuckOtherwise : Option Stuck → Option Note → Type 0
IsStuckOtherwise before None = ⊥
IsStuckOtherwise before (Some note) = IsStuck note.status × (before ≢ stuck_of note.status)

-- the status by the note, if there is one
abbrev pub status_by : Option Note → Status
status_by None = ready
status_by (Some note) = note.status

-- These are the goals that are stuck otherwise by these notes, with their statuses, by name.
pub record AreStuckOtherwise (notes : NotesByGoal) (d : Disturbed) (news : List Standing) : Type 0 where
  pub each : (g : GoalName) (s : Status) → In (g, s) news
      ↔ ((before : Option Stuck) × (finite.get d g ≡ Some before) × IsStuckOtherwise before (finite.get notes g) × (s ≡ status_by (finite.get notes g)))
  pub ordered : (a b : Standing) → Precedes news a b → goal_cmp a.0 b.0 ≡ Less
