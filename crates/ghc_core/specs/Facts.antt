-- Facts of events, in two plays.
use Rattle.std.specs.Prelude.{ℕ, pos, List, [], ◌∷◌, Some, None}
use Rattle.std.specs.FinMap as finite
use Rattle.ghc_term.specs.declared.goal_name.GoalName.{GoalName}
use Rattle.ghc_term.specs.Tree.{variable, integer}
use Rattle.ghc_term.specs.Goal.{Goal, unify}
use Rattle.ghc_term.specs.declared.fault.Fault.{Fault}
use Rattle.ghc_records.specs.Replay.{query_state}
use Rattle.ghc_records.specs.Journal.{fresh_opening}
use Rattle.ghc_core.specs.World.{Hands, World}
use Rattle.ghc_core.specs.Events.{undo, redo, Event, propose, commit, command, Reply, held, stepped, undone, refused}
use Rattle.ghc_core.specs.Answers.{Plays}

-- The world of a query under no program.
abbrev pub query_world : List Goal → World
query_world query = record { opening = fresh_opening [] query []; state = query_state query; kept = []; shelf = finite.empty; next = 1; journal = [] }

-- Two empty hands.
abbrev pub two_hands : Hands
two_hands = record { count = 2; held = finite.empty }

-- Played from the query under no program, with memory enough, these events get these replies.
abbrev pub Gets : List Goal → List Event → List Reply → Type 0
Gets query es replies = (v : World) × (left : Hands) × Plays ⊥ (λ _. ⊥) (query_world query) two_hands es (Some replies) v left

-- the goal `X = k`
abbrev pub equals : ℕ → Goal
equals k = unify (variable (record { step = 0; place = 1 })) (integer (pos k))

-- the name of the query's i-th goal
abbrev pub of_query : ℕ → GoalName
of_query i = record { step = 0; place = i }

-- Query `X = 1`: two hands propose its goal, one commits, and the proposal of the other is stale.
abbrev pub SecondHandIsStale : Type 0
SecondHandIsStale =
    Gets (equals 1 ∷ []) (propose 1 (of_query 1) None ∷ propose 2 (of_query 1) None ∷ commit 1 ∷ commit 2 ∷ [])
    (held 1 ∷ held 2 ∷ stepped 1 ∷ refused Fault.Stale ∷ [])

-- Query `X = 1, X = 2`: the first goal is reduced and undone, then the second is reduced, and a redo of the first is changed.
abbrev pub RedoIsChanged : Type 0
RedoIsChanged =
    Gets (equals 1 ∷ equals 2 ∷ []) (propose 1 (of_query 1) None ∷ commit 1 ∷ command (undo 1) ∷ propose 1 (of_query 2) None ∷ commit 1 ∷ command (redo 1) ∷ [])
    (held 1 ∷ stepped 1 ∷ undone (1 ∷ []) ∷ held 1 ∷ stepped 2 ∷ refused Fault.Changed ∷ [])
