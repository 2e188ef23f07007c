-- What a run finds at a goal that it meets.
use Rattle.std.specs.Prelude.{◌≡◌, ◌≤◌, ◌⊎◌, ℕ, zero, suc, List, [], ◌∷◌, Option, Some, IsTrue}
use Rattle.std.specs.FinMap as finite
use Rattle.std.specs.FinSet as set
use Rattle.ghc_term.specs.declared.goal_name.GoalName.{GoalName}
use Rattle.ghc_term.specs.Lists.{In}
use Rattle.ghc_term.specs.Sets.{Variables}
use Rattle.ghc_records.specs.Record.{Record}
use Rattle.ghc_depend.specs.Depend.{Binds}
use Rattle.ghc_hooks.specs.Status.{ready, waiting}
use Rattle.ghc_hooks.specs.Notes.{Note, NotesByGoal, AreLeft}
use Rattle.ghc_core.specs.World.{World, with_step}
use Rattle.ghc_core.specs.Core.{Core}
use Rattle.ghc_core.specs.Settling.{AreKept, IsNoted}
use Rattle.ghc_trace.specs.Spies.{Spies}
use Rattle.ghc_pool.specs.declared.runs.meet.Met.{Met}
use Rattle.ghc_pool.specs.declared.runs.meet.Met.TheVariants.{Stepped as stepped, Stop as stop, Passed as passed}
use Rattle.ghc_pool.specs.Runs.{IsInQuestion, HasMetNoFailure, IsRunStep}

-- Since this number, which is no less than 1, each kept step took a goal in question.
abbrev pub TookInQuestion : Option GoalName → List Record → ℕ → Type 0
TookInQuestion root kept since = (1 ≤ since) × ((r : Record) → In r kept → since ≤ r.number → (g : GoalName) × (r.goal ≡ Some g) × IsInQuestion root kept g)

-- WasTried w g before result after: in the world w the goal named g was tried and has a note, and the others have what they had. Or memory was refused for that, and the notes stay.
abbrev pub WasTried : World → GoalName → NotesByGoal → Met → NotesByGoal → Type 0
WasTried w g before (stepped n k) after = ⊥
WasTried w g before stop after = after ≡ before
WasTried w g before passed after = IsNoted w g before after

-- WasTaken w before r result v after: this step was taken, and the notes are left that did not look at what it binds. Or memory was refused for that, and nothing changed.
abbrev pub WasTaken : World → NotesByGoal → Record → Met → World → NotesByGoal → Type 0
WasTaken w before r (stepped n k) v after = (v ≡ with_step r w) × AreLeft v.state.goals (Binds r) before after
WasTaken w before r stop v after = (v ≡ w) × (after ≡ before)
WasTaken w before r passed v after = ⊥

-- From the world w, with the notes before, a run by one worker tried goals, and then took this step, which it may take. That left the world v, with the notes after, and the run has still met no failed goal.
pub record HasStepped (spies : Spies) (root : Option GoalName) (w : World) (before : NotesByGoal) (r : Record) (v : World) (after : NotesByGoal) : Type 0 where
  pub notes : NotesByGoal
  pub tried : AreKept before notes
  pub step : IsRunStep 1 spies root w notes r
  pub world : v ≡ with_step r w
  pub left : AreLeft v.state.goals (Binds r) notes after
  pub unfailed : HasMetNoFailure root v.kept after

-- A run that met a goal took a step that it may take; or it left the world as it was, and no note went or changed. Where it goes on it has met no failed goal.
abbrev pub IsMet : Spies → Option GoalName → World → NotesByGoal → Met → World → NotesByGoal → Type 0
IsMet spies root w before (stepped n k) v after = (r : Record) × HasStepped spies root w before r v after
IsMet spies root w before stop v after = (v ≡ w) × AreKept before after
IsMet spies root w before passed v after = (v ≡ w) × AreKept before after × HasMetNoFailure root w.kept after

-- If the goal named g was passed, it is not untried any more.
abbrev pub IsPassed : Core → GoalName → Met → Core → Type 0
IsPassed c g (stepped n k) d = Unit {0}
IsPassed c g stop d = Unit {0}
IsPassed c g passed d = d.untried ≡ set.remove c.untried g

-- The goal named g is noted as ready.
abbrev pub IsNotedReady : NotesByGoal → GoalName → Type 0
IsNotedReady notes g = (note : Note) × (finite.get notes g ≡ Some note) × (note.status ≡ ready)

-- The goal named g is noted as waiting.
abbrev pub IsNotedWaiting : NotesByGoal → GoalName → Type 0
IsNotedWaiting notes g = (note : Note) × (xs : Variables) × (finite.get notes g ≡ Some note) × (note.status ≡ waiting xs)

-- The goal named g is untried, or noted as ready.
abbrev pub IsToMeet : Core → GoalName → Type 0
IsToMeet c g = IsTrue (set.contains c.untried g) ⊎ IsNotedReady c.notes g

-- the names of so many goals that the step of this number makes, the first one last
abbrev pub made_back : ℕ → ℕ → List GoalName
made_back step zero = []
made_back step (suc n) = record { step = step; place = suc n } ∷ made_back step n
