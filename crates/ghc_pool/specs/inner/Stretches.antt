-- What a stretch of a run leaves.
use Rattle.std.specs.Prelude.{◌≡◌, ◌≤◌, ℕ, List, Option, length}
use Rattle.ghc_term.specs.declared.goal_name.GoalName.{GoalName}
use Rattle.ghc_records.specs.Record.{Record}
use Rattle.ghc_hooks.specs.Notes.{NotesByGoal}
use Rattle.ghc_core.specs.World.{World}
use Rattle.ghc_trace.specs.Spies.{Spies}
use Rattle.ghc_pool.specs.Runs.{Takes}

-- From the world w, with the notes before, a run by these workers took so many steps, one after another, which left the world v, with the notes after.
abbrev pub TakesSoMany : ℕ → ℕ → Spies → Option GoalName → World → NotesByGoal → World → NotesByGoal → Type 0
TakesSoMany count workers spies root w before v after = (steps : List Record) × Takes workers spies root w before steps v after × (count ≡ length steps)

-- It took at most so many.
abbrev pub TakesAtMost : ℕ → ℕ → Spies → Option GoalName → World → NotesByGoal → World → NotesByGoal → Type 0
TakesAtMost most workers spies root w before v after = (steps : List Record) × Takes workers spies root w before steps v after × (length steps ≤ most)
