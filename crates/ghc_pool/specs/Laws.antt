-- Laws of runs.
use Rattle.std.specs.Prelude.{◌≡◌, ℕ, ◌+◌, List, ◌++◌, length, map, Option, Some}
use Rattle.ghc_term.specs.Lists.{In}
use Rattle.ghc_term.specs.declared.goal_name.GoalName.{GoalName}
use Rattle.ghc_records.specs.Record.{Record}
use Rattle.ghc_records.specs.Journal.{took, step_of}
use Rattle.ghc_hooks.specs.Notes.{NotesByGoal}
use Rattle.ghc_core.specs.World.{World}
use Rattle.ghc_core.specs.Proposes.{IsReduction}
use Rattle.ghc_trace.specs.Spies.{Spies}
use Rattle.ghc_pool.specs.Runs.{IsInQuestion, Takes}

-- What a run adds stands at the end of the record and of the journal, under the next numbers, and it changes nothing on the shelf.
pub record AddsAtTheEnd (w : World) (steps : List Record) (v : World) : Type 0 where
  pub kept : v.kept ≡ w.kept ++ steps
  pub journal : v.journal ≡ w.journal ++ map (λ r. took (step_of r)) steps
  pub next : v.next ≡ w.next + length steps
  pub shelf : v.shelf ≡ w.shelf
  pub opening : v.opening ≡ w.opening

-- Each run adds its steps at the end of the record and of the journal, and leaves the shelf and the opening as they are.
abbrev pub RunsAddAtTheEnd : Type 0
RunsAddAtTheEnd =
    (workers : ℕ) (spies : Spies) (root : Option GoalName) (w : World) (before : NotesByGoal) (v : World) (after : NotesByGoal) (steps : List Record) → Takes workers spies root w before steps v after → AddsAtTheEnd w steps v

-- Each step of a run is a reduction of a goal that is in question by the record that is left.
abbrev pub RunsReduce : Type 0
RunsReduce =
    (workers : ℕ) (spies : Spies) (root : Option GoalName) (w : World) (before : NotesByGoal) (v : World) (after : NotesByGoal) (steps : List Record) → Takes workers spies root w before steps v after
    → (r : Record) → In r steps → IsReduction r.act × ((g : GoalName) × (r.goal ≡ Some g) × IsInQuestion root v.kept g)
