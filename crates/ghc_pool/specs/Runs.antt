-- Runs: steps taken one after another, until there is a reason to stop.
use Rattle.std.specs.Prelude.{◌≡◌, ◌≤◌, ℕ, List, [], ◌∷◌, ◌++◌, length, Option, Some, None}
use Rattle.std.specs.FinMap as finite
use Rattle.ghc_term.specs.declared.goal_name.GoalName.{GoalName}
use Rattle.ghc_term.specs.Goal.{Goal}
use Rattle.ghc_term.specs.declared.fault.Fault.{Fault}
use Rattle.ghc_records.specs.Record.{Record}
use Rattle.ghc_depend.specs.Depend.{Descends, Binds}
use Rattle.ghc_hooks.specs.Status.{ready, failed}
use Rattle.ghc_hooks.specs.Notes.{Note, NotesByGoal, IsUntried, AreLeft}
use Rattle.ghc_fire.specs.Attempt.{proposes}
use Rattle.ghc_core.specs.World.{Proposal, World, IsFull, with_step}
use Rattle.ghc_core.specs.Core.{IsStanding}
use Rattle.ghc_core.specs.Proposes.{AttemptAnswers, IsCommitOf, IsStepOf}
use Rattle.ghc_core.specs.Settling.{AreKept}
use Rattle.ghc_trace.specs.News.{Stands}
use Rattle.ghc_trace.specs.Spies.{Spies, IsSpied}
use Rattle.ghc_pool.specs.declared.stop.Stop.{Stop}
use Rattle.ghc_pool.specs.declared.stop.Stop.TheVariants.{Quiet, Spied, Clash, Limit, Full, Memory}
use Rattle.ghc_pool.specs.declared.stop.Report.{Report}
use Rattle.ghc_pool.specs.declared.mode.Mode.{Mode}
use Rattle.ghc_pool.specs.declared.mode.Mode.TheVariants.{Leap, Skip, Settle}

-- With these steps kept, the goal named g is in question: any goal is, or where a root is named, those that descend from it.
abbrev pub IsInQuestion : Option GoalName → List Record → GoalName → Type 0
IsInQuestion None kept g = Unit {0}
IsInQuestion (Some root) kept g = Descends kept root g

-- The goal named g is there, and is a call of a spied predicate.
abbrev pub IsSpiedIn : Spies → World → GoalName → Type 0
IsSpiedIn spies w g = (b : Goal) × (finite.get w.state.goals g ≡ Some b) × IsSpied spies b

-- In the world w this step of the goal named g was proposed: by the least clause that accepts it, if it is a call.
abbrev pub Proposes : World → GoalName → Proposal → Type 0
Proposes w g p = (p.goal ≡ g) × AttemptAnswers w g None (proposes p.act p.effect)

-- The record is that of a step of the goal named g. It was proposed in a world that a core of the same opening can be in, and holds in the world w as its next step.
abbrev pub IsHeldStep : World → GoalName → Record → Type 0
IsHeldStep w g r = (p : Proposal) × ((before : World) × IsStanding before × (before.opening ≡ w.opening) × Proposes before g p) × IsCommitOf w p r

-- By its note the goal named g has failed.
abbrev pub IsNotedFailed : NotesByGoal → GoalName → Type 0
IsNotedFailed notes g = (note : Note) × (f : Fault) × (finite.get notes g ≡ Some note) × (note.status ≡ failed f)

-- With these steps kept and these notes, a run has met no failed goal: none in question is noted as failed.
abbrev pub HasMetNoFailure : Option GoalName → List Record → NotesByGoal → Type 0
HasMetNoFailure root kept notes = (g : GoalName) → IsInQuestion root kept g → ¬ IsNotedFailed notes g

-- A run by so many workers may take the step in the world w, with these notes: it reduces a goal in question that is no call of a spied predicate, as it was proposed. By one worker it is as proposed in w, a call by the least clause that accepts it, and the run has met no failed goal.
pub record IsRunStep (workers : ℕ) (spies : Spies) (root : Option GoalName) (w : World) (notes : NotesByGoal) (r : Record) : Type 0 where
  pub goal : GoalName
  pub taken : IsHeldStep w goal r
  pub alone : workers ≡ 1 → IsStepOf w goal None r
  pub asked : IsInQuestion root w.kept goal
  pub unspied : ¬ IsSpiedIn spies w goal
  pub unfailed : workers ≡ 1 → HasMetNoFailure root w.kept notes

-- Takes workers spies root w before steps v after: from the world w, with the notes before, a run by so many workers took these steps, one after another. They left the world v, with the notes after. Goals are tried between the steps. By one worker no note goes or changes by that, and a step leaves just the notes that did not look at what it binds.
pub data Takes (workers : ℕ) (spies : Spies) (root : Option GoalName) (w : World) (before : NotesByGoal) : List Record → World → NotesByGoal → Type 0 where
  at_start : Takes workers spies root w before [] w before
  and_tries : {steps : List Record} {v : World} {notes : NotesByGoal} (more : NotesByGoal) → Takes workers spies root w before steps v notes → (workers ≡ 1 → AreKept notes more)
      → Takes workers spies root w before steps v more
  and_step : {steps : List Record} {v : World} {notes : NotesByGoal} (r : Record) (left : NotesByGoal) → Takes workers spies root w before steps v notes → IsRunStep workers spies root v notes r
      → (workers ≡ 1 → AreLeft (with_step r v).state.goals (Binds r) notes left) → Takes workers spies root w before (steps ++ r ∷ []) (with_step r v) left

-- The goal named g is in question, and has failed.
abbrev pub HasFailed : Option GoalName → World → GoalName → Type 0
HasFailed root w g = IsInQuestion root w.kept g × ((f : Fault) × Stands w g (failed f))

-- The goal named g is in question, and is ready.
abbrev pub IsReady : Option GoalName → World → GoalName → Type 0
IsReady root w g = IsInQuestion root w.kept g × Stands w g ready

-- Nothing in question asks for a stop: no goal has failed, and none that is ready is a call of a spied predicate.
pub record AsksForNoStop (spies : Spies) (root : Option GoalName) (w : World) : Type 0 where
  pub unfailed : (g : GoalName) → ¬ HasFailed root w g
  pub unspied : (g : GoalName) → IsReady root w g → ¬ IsSpiedIn spies w g

-- A run can go on: nothing asks for a stop, a new step has room, and a goal in question is ready.
pub record CanGoOn (spies : Spies) (root : Option GoalName) (w : World) : Type 0 where
  pub unstopped : AsksForNoStop spies root w
  pub room : ¬ IsFull w
  pub goal : GoalName
  pub is_ready : IsReady root w goal

-- In the world w, with these notes, nothing in question is left to do: no goal in question is untried, ready or failed.
pub record IsQuiet (root : Option GoalName) (w : World) (notes : NotesByGoal) : Type 0 where
  pub tried : (g : GoalName) → IsInQuestion root w.kept g → ¬ IsUntried w.state.goals notes g
  pub unready : (g : GoalName) → ¬ IsReady root w g
  pub unfailed : (g : GoalName) → ¬ HasFailed root w g

-- The reason to stop holds in the world w, with these notes, after so many steps of as many as the limit allows. Of several that hold it is the first. Starved says that memory was refused.
pub data Holds (Starved : Type 0) (spies : Spies) (root : Option GoalName) (limit taken : ℕ) (w : World) (notes : NotesByGoal) : Stop → Type 0 where
  has_failed : (g : GoalName) → HasFailed root w g → Holds Starved spies root limit taken w notes (Stop.Clash g)
  is_spied : (g : GoalName) → ((h : GoalName) → ¬ HasFailed root w h) → IsReady root w g → IsSpiedIn spies w g → Holds Starved spies root limit taken w notes (Stop.Spied g)
  starved : Starved → Holds Starved spies root limit taken w notes Stop.Memory
  is_full : AsksForNoStop spies root w → IsFull w → Holds Starved spies root limit taken w notes Stop.Full
  is_quiet : ¬ IsFull w → IsQuiet root w notes → Holds Starved spies root limit taken w notes Stop.Quiet
  all_taken : CanGoOn spies root w → taken ≡ limit → Holds Starved spies root limit taken w notes Stop.Limit

-- From the world w, with some notes, a run by so many workers left the world v, with these notes. It took as many steps as it reports, at most the limit, and the reason that it reports holds of what is left.
pub record Runs (Starved : Type 0) (workers : ℕ) (spies : Spies) (root : Option GoalName) (limit : ℕ) (w v : World) (notes : NotesByGoal) (report : Report) : Type 0 where
  pub before : NotesByGoal
  pub steps : List Record
  pub taken : Takes workers spies root w before steps v notes
  pub count : report.added ≡ length steps
  pub few : report.added ≤ limit
  pub reason : Holds Starved spies root limit report.added v notes report.stop

-- Of the world w, with these notes, no goal is untried; or memory was refused.
abbrev pub IsSettled : Type 0 → World → NotesByGoal → Stop → Type 0
IsSettled Starved w notes Quiet = (g : GoalName) → ¬ IsUntried w.state.goals notes g
IsSettled Starved w notes Memory = Starved
IsSettled Starved w notes (Spied g) = ⊥
IsSettled Starved w notes (Clash g) = ⊥
IsSettled Starved w notes Limit = ⊥
IsSettled Starved w notes Full = ⊥

-- What a run in this mode leaves: steps are taken, of any goals or of those that descend from the root; or the goals are tried, and the world stays.
abbrev pub RunsIn : Mode → Type 0 → ℕ → Spies → World → World → NotesByGoal → Report → Type 0
RunsIn (Leap limit) Starved workers spies w v notes report = Runs Starved workers spies None limit w v notes report
RunsIn (Skip root limit) Starved workers spies w v notes report = Runs Starved workers spies (Some root) limit w v notes report
RunsIn Settle Starved workers spies w v notes report = (v ≡ w) × (report.added ≡ 0) × IsSettled Starved v notes report.stop
