-- Goals that a change disturbs, as they are gathered.
use Rattle.std.specs.Prelude.{◌≡◌, ◌↔◌, List, ◌++◌, map}
use Rattle.std.specs.FinMap as finite
use Rattle.ghc_term.specs.declared.goal_name.GoalName.{GoalName}
use Rattle.ghc_term.specs.Lists.{In}
use Rattle.ghc_hooks.specs.Notes.{NotesByGoal}
use Rattle.ghc_trace.specs.Disturbed.{stuck_by}
use Rattle.ghc_trace.specs.inner.NewsCode.{Former}

-- the goal of this name, with how it is stuck by these notes
abbrev pub noted : NotesByGoal → GoalName → Former
noted notes g = (g, stuck_by (finite.get notes g))

-- Behind the old list stand the goals of which P holds, each with how it is stuck by these notes: in any order, and some maybe more than once.
abbrev pub Gathers : NotesByGoal → (GoalName → Type 0) → List Former → List Former → Type 0
Gathers notes P old new = (names : List GoalName) × ((g : GoalName) → In g names ↔ P g) × (new ≡ old ++ map (noted notes) names)
