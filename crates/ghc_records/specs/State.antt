-- What a state has room for, and how it takes a step and takes it back.
use Rattle.std.specs.Prelude.{◌≡◌, ◌≤◌, if◌then◌else◌, is_some, ℕ, zero, suc, List, [], ◌∷◌, length, Option, Some, None}
use Rattle.std.specs.FinMap as finite
use Rattle.ghc_term.specs.declared.var_name.VarName.{VarName}
use Rattle.ghc_term.specs.declared.goal_name.GoalName.{GoalName}
use Rattle.ghc_term.specs.Goal.{Goal}
use Rattle.ghc_term.specs.Store.{value_at}
use Rattle.ghc_fire.specs.Goals.{Goals}
use Rattle.ghc_records.specs.Record.{State, Record}
use Rattle.ghc_records.specs.Replay.{MakesGoal}

-- How many more goals and bindings a state takes without memory.
pub record StateRoom : Type 0 where
  pub goals : ℕ
  pub bindings : ℕ

-- The tables of a state are what they hold, and their room.
pub record StateTables : Type 0 where
  pub held : State
  pub room : StateRoom

-- There is room for what the step makes and binds.
abbrev pub HasRoomToTake : StateRoom → Record → Type 0
HasRoomToTake room r = (length r.effect.makes ≤ room.goals) × (finite.len r.effect.binds ≤ room.bindings)

-- the goals, with n.k, .., n.1 taken away
abbrev pub without_makes : ℕ → ℕ → Goals → Goals
without_makes n zero m = m
without_makes n (suc k) m = without_makes n k (finite.remove m (record { step = n; place = suc k }))

-- the goals, with the one named put back, if one is
abbrev pub with_goal : Option GoalName → Option Goal → Goals → Goals
with_goal (Some g) (Some b) m = finite.insert m g b
with_goal (Some g) None m = m
with_goal None consumed m = m

-- The step consumed the goal b of the name g.
abbrev pub ConsumesGoal : Record → GoalName → Goal → Type 0
ConsumesGoal r g b = (r.goal ≡ Some g) × (r.consumed ≡ Some b)

-- Of the goals m the step's are taken back, which leaves l: those that it made are gone, the one that it consumed and did not make is there again, and under each other name is what was there.
pub record GoalsTakenBack (r : Record) (m l : Goals) : Type 0 where
  pub unmade : (g : GoalName) → MakesGoal r g → finite.get l g ≡ None
  pub given_back : (g : GoalName) (b : Goal) → ConsumesGoal r g b → ¬ MakesGoal r g → finite.get l g ≡ Some b
  pub others : (g : GoalName) → ¬ MakesGoal r g → ((b : Goal) → ¬ ConsumesGoal r g b) → finite.get l g ≡ finite.get m g

-- The step is taken back from the state s, which leaves t: its goals are taken back, and what it bound is unbound.
pub record IsTakenBack (r : Record) (s t : State) : Type 0 where
  pub goals : GoalsTakenBack r s.goals t.goals
  pub store : (x : VarName) → value_at t.store x ≡ if is_some (value_at r.effect.binds x) then None else value_at s.store x

-- The steps are taken back from the state s, the last one first, which leaves t.
abbrev pub AreTakenBack : List Record → State → State → Type 0
AreTakenBack [] s t = t ≡ s
AreTakenBack (r ∷ rs) s t = (m : State) × AreTakenBack rs s m × IsTakenBack r m t
