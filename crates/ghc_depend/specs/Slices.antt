-- Slices of the record: the steps to which a variable owes its term, with all on which they depend.
use Rattle.std.specs.Prelude.{◌≡◌, ◌⊎◌, ℕ, List, Option, Some}
use Rattle.std.specs.FinMap as finite
use Rattle.ghc_term.specs.declared.var_name.VarName.{VarName}
use Rattle.ghc_term.specs.declared.goal_name.GoalName.{GoalName}
use Rattle.ghc_term.specs.Lists.{In}
use Rattle.ghc_term.specs.Tree.{Tree, variable}
use Rattle.ghc_term.specs.Bindings.{Reaches}
use Rattle.ghc_term.specs.Store.{value_at}
use Rattle.ghc_term.specs.Goal.{Goal}
use Rattle.ghc_flat.specs.Clause.{Clause, Program, Query, IsClause}
use Rattle.ghc_flat.specs.Flat.{AreDefined, IsProgram, IsQuery}
use Rattle.ghc_fire.specs.declared.act.Act.TheVariants.{ByClause as by_clause, Asked as asked}
use Rattle.ghc_term.specs.Resolved.{IsTextOf}
use Rattle.ghc_match.specs.Looked.{GoalLooksAt}
use Rattle.ghc_records.specs.Record.{State, Record}
use Rattle.ghc_records.specs.Replay.{Replays, IsVariableOf}
use Rattle.ghc_depend.specs.Depend.{Binds, MakesGoal, MakesVariable, DependsOn}
use Rattle.ghc_depend.specs.Deletion.{IsPartedBy}

-- The step is one of the roots, or a cause depends on it directly.
pub data IsCauseOf (kept : List Record) (roots : Record → Type 0) : Record → Type 0 where
  root : {r : Record} → roots r → IsCauseOf kept roots r
  cause : {a b : Record} → IsCauseOf kept roots b → DependsOn kept b a → IsCauseOf kept roots a

-- The step gave x its term: it bound a variable that x reaches, or made x.
abbrev pub Gave : (VarName → Option Tree) → VarName → Record → Type 0
Gave S x r = ((y : VarName) × Reaches S (variable x) y × Binds r y) ⊎ MakesVariable r x

-- Whatever x reaches in S has in U the value that it has in S.
abbrev pub SameFrom : VarName → (VarName → Option Tree) → (VarName → Option Tree) → Type 0
SameFrom x S U = (y : VarName) → Reaches S (variable x) y → U y ≡ S y

-- The slice of x: of the kept steps those to which x owes its term, and all on which they depend; the others are the rest.
abbrev pub IsSliceOf : List Record → State → VarName → List Record → List Record → Type 0
IsSliceOf kept t x slice rest = IsPartedBy kept (IsCauseOf kept (Gave (value_at t.store) x)) slice rest

-- The slice alone replays, with the effects recorded, and x stands there for what it stands for; and each part of the record that replays so has the slice.
pub record SliceIsLeast (P : Program) (query : Query) (kept : List Record) (t : State) (x : VarName) (slice : List Record) : Type 0 where
  pub alone : (u : State) × Replays P query slice u × IsVariableOf query slice x × SameFrom x (value_at t.store) (value_at u.store)
  pub least :
      (others part : List Record) (v : State) → IsPartedBy kept (λ r. In r others) others part → Replays P query part v → IsVariableOf query part x
      → SameFrom x (value_at t.store) (value_at v.store) → (r : Record) → In r slice → In r part

-- So it is for all records that replay from an accepted program and query, and for each of their variables.
abbrev pub SlicesAreLeast : Type 0
SlicesAreLeast =
    (P : Program) (query : Query) (kept : List Record) (t : State) (x : VarName) (slice rest : List Record) → IsProgram P → IsQuery P query
    → Replays P query kept t → IsVariableOf query kept x → IsSliceOf kept t x slice rest → SliceIsLeast P query kept t x slice

-- The step gave the goal b, named g, what it is and looks at: it made g, or bound a variable at which b looks.
abbrev pub GaveGoal : Program → (VarName → Option Tree) → GoalName → Goal → Record → Type 0
GaveGoal P S g b r = MakesGoal r g ⊎ ((y : VarName) × GoalLooksAt P S b y × Binds r y)

-- In the state u the goal b is there under the name g, and what it looks at in S is as in S.
abbrev pub IsThereAlike : Program → GoalName → Goal → (VarName → Option Tree) → State → Type 0
IsThereAlike P g b S u = (finite.get u.goals g ≡ Some b) × ((y : VarName) → GoalLooksAt P S b y → value_at u.store y ≡ S y)

-- The slice of the goal b, named g: of the kept steps those that gave it what it is and looks at, and all on which they depend.
abbrev pub IsGoalSliceOf : Program → List Record → State → GoalName → Goal → List Record → List Record → Type 0
IsGoalSliceOf P kept t g b slice rest = IsPartedBy kept (IsCauseOf kept (GaveGoal P (value_at t.store) g b)) slice rest

-- The slice alone replays, with the effects recorded, and the goal is there alike; and each part of the record of which that is so has the slice.
pub record GoalSliceIsLeast (P : Program) (query : Query) (kept : List Record) (t : State) (g : GoalName) (b : Goal) (slice : List Record) : Type 0 where
  pub alone : (u : State) × Replays P query slice u × IsThereAlike P g b (value_at t.store) u
  pub least :
      (others part : List Record) (v : State) → IsPartedBy kept (λ r. In r others) others part → Replays P query part v → IsThereAlike P g b (value_at t.store) v
      → (r : Record) → In r slice → In r part

-- So it is for all records that replay from an accepted program and query, and for each goal that is there.
abbrev pub GoalSlicesAreLeast : Type 0
GoalSlicesAreLeast =
    (P : Program) (query : Query) (kept : List Record) (t : State) (g : GoalName) (b : Goal) (slice rest : List Record) → IsProgram P → IsQuery P query
    → Replays P query kept t → finite.get t.goals g ≡ Some b → IsGoalSliceOf P kept t g b slice rest → GoalSliceIsLeast P query kept t g b slice

-- Where whatever x reaches has the value that it had, x has the text that it had.
abbrev pub SameFromHasTheSameText : Type 0
SameFromHasTheSameText =
    (x : VarName) (S U : VarName → Option Tree) (text : List ℕ) → SameFrom x S U → IsTextOf S (variable x) text → IsTextOf U (variable x) text

-- The program Q has the clauses of P by which the steps went, under their numbers, and clauses for the calls that they asked for.
pub record HasClausesOf (P Q : Program) (rs : List Record) : Type 0 where
  pub used : (r : Record) (k : ℕ) (c : Clause) → In r rs → r.act ≡ by_clause k → IsClause P k c → IsClause Q k c
  pub defined : (r : Record) (gs : List Goal) → In r rs → r.act ≡ asked gs → AreDefined P gs → AreDefined Q gs

-- Steps replay, with the effects recorded, under each program that has the clauses by which they went.
abbrev pub ReplayIsOfItsClauses : Type 0
ReplayIsOfItsClauses = (P Q : Program) (query : Query) (rs : List Record) (t : State) → HasClausesOf P Q rs → Replays P query rs t → Replays Q query rs t
