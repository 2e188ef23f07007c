-- Laws of keeping a slice.
use Rattle.std.specs.Prelude.{◌≡◌, ℕ, List, Some, ◌++◌, map}
use Rattle.std.specs.FinMap as finite
use Rattle.ghc_term.specs.declared.var_name.VarName.{VarName}
use Rattle.ghc_term.specs.declared.goal_name.GoalName.{GoalName}
use Rattle.ghc_term.specs.Goal.{Goal}
use Rattle.ghc_term.specs.Store.{value_at}
use Rattle.ghc_records.specs.Record.{Record, numbers}
use Rattle.ghc_records.specs.Replay.{IsVariableOf}
use Rattle.ghc_depend.specs.Slices.{IsGoalSliceOf, IsSliceOf, IsThereAlike, SameFrom}
use Rattle.ghc_hooks.specs.Status.{Status}
use Rattle.ghc_core.specs.Core.{IsStanding}
use Rattle.ghc_core.specs.World.{Hands, World, IsReplay}
use Rattle.ghc_core.specs.Events.{redo, command, stepped}
use Rattle.ghc_core.specs.Answers.{AnswersEach}
use Rattle.ghc_trace.specs.News.{Stands}
use Rattle.ghc_console.specs.Keeping.{RollBack}

-- From the world v on, whatever hands there are, the steps of these numbers can be redone one after another, and that gives the state of the world w.
abbrev pub ComeBack : World → World → List ℕ → Type 0
ComeBack w v ns = (hands : Hands) → (u : World) × AnswersEach (λ i. ⊥) v hands (map (λ n. command (redo n)) ns) (map stepped ns) u hands × (u.state ≡ w.state)

-- In the world v just the slice is kept, in its order, and x stands there for what it stands for in the world w. With the rest after it, in its old order, the record replays to the old state, and so the rest can be redone.
pub record IsKeptAlone (w : World) (x : VarName) (slice rest : List Record) (v : World) : Type 0 where
  pub kept : v.kept ≡ slice
  pub variable : IsVariableOf v.opening.query v.kept x
  pub same : SameFrom x (value_at w.state.store) (value_at v.state.store)
  pub way_back : IsReplay v (v.kept ++ rest) w.state
  pub redone : ComeBack w v (numbers rest)

-- Roll back the steps outside of the slice of a variable, one after another, each that is still kept then. Just the slice is kept then, and the rest can come back.
abbrev pub KeepLeavesTheSlice : Type 0
KeepLeavesTheSlice =
    (w v : World) (x : VarName) (slice rest : List Record) (lines : List ℕ) → IsStanding w → IsVariableOf w.opening.query w.kept x
    → IsSliceOf w.kept w.state x slice rest → RollBack w (numbers rest) lines v → IsKeptAlone w x slice rest v

-- In the world v just the slice is kept, in its order, and the goal b is there alike, under its name g, with the status that it has in the world w. With the rest after it, in its old order, the record replays to the old state, and so the rest can be redone.
pub record IsGoalKeptAlone (w : World) (g : GoalName) (b : Goal) (slice rest : List Record) (v : World) : Type 0 where
  pub kept : v.kept ≡ slice
  pub alike : IsThereAlike w.opening.program g b (value_at w.state.store) v.state
  pub same_status : (s : Status) → Stands w g s → Stands v g s
  pub way_back : IsReplay v (v.kept ++ rest) w.state
  pub redone : ComeBack w v (numbers rest)

-- Where the steps outside of the slice of a goal are rolled back, one after another, each that is still kept then, the slice is kept alone, and the rest can come back.
abbrev pub KeepLeavesTheGoal : Type 0
KeepLeavesTheGoal =
    (w v : World) (g : GoalName) (b : Goal) (slice rest : List Record) (lines : List ℕ) → IsStanding w → finite.get w.state.goals g ≡ Some b
    → IsGoalSliceOf w.opening.program w.kept w.state g b slice rest → RollBack w (numbers rest) lines v → IsGoalKeptAlone w g b slice rest v
