-- What is written of goals one after another.
use Rattle.std.specs.Prelude.{◌≡◌, ℕ, List, ◌++◌, map, Option}
use Rattle.std.specs.FinMap as finite
use Rattle.ghc_term.specs.declared.goal_name.GoalName.{GoalName}
use Rattle.ghc_records.specs.Orders.{Picks}
use Rattle.ghc_records.specs.Record.{Record}
use Rattle.ghc_hooks.specs.Notes.{NotesByGoal}
use Rattle.ghc_trace.specs.Ports.{resumed}
use Rattle.ghc_trace.specs.PortText.{ports_text}
use Rattle.ghc_trace.specs.News.{Standing, news_text}
use Rattle.ghc_trace.specs.Disturbed.{WaitsWhereBound, IsStuckOtherwise, status_by}
use Rattle.ghc_trace.specs.declared.stuck.Stuck.{Stuck}

-- A goal with how it was stuck, if it was.
abbrev pub Former : Type 0
Former = GoalName × Option Stuck

-- the ports of goals that are resumed
abbrev pub resumed_text : List Former → List ℕ
resumed_text es = ports_text (map resumed (map (λ e. e.0) es))

-- Behind the old text stand the ports of those of the goals that waited for a variable that the step binds.
abbrev pub AddsResumed : Record → List Former → List ℕ → List ℕ → Type 0
AddsResumed r es old new = (picked : List Former) × Picks (λ e. WaitsWhereBound r e.1) es picked × (new ≡ old ++ resumed_text picked)

-- The goal is stuck otherwise by these notes.
abbrev pub IsNewsBy : NotesByGoal → Former → Type 0
IsNewsBy notes e = IsStuckOtherwise e.1 (finite.get notes e.0)

-- the goals with their statuses by these notes
abbrev pub standings : NotesByGoal → List Former → List Standing
standings notes es = map (λ e. (e.0, status_by (finite.get notes e.0))) es

-- the lines of the goals that are stuck
abbrev pub standings_text : NotesByGoal → List Former → List ℕ
standings_text notes es = news_text (standings notes es)

-- Behind the old text stand the lines of those of the goals that are stuck otherwise by these notes.
abbrev pub AddsNews : NotesByGoal → List Former → List ℕ → List ℕ → Type 0
AddsNews notes es old new = (picked : List Former) × Picks (IsNewsBy notes) es picked × (new ≡ old ++ standings_text notes picked)
