-- Laws of replays.
use Rattle.std.specs.Prelude.{◌≡◌, List, Some}
use Rattle.std.specs.FinMap as finite
use Rattle.ghc_term.specs.declared.var_name.VarName.{VarName}
use Rattle.ghc_term.specs.declared.goal_name.GoalName.{GoalName}
use Rattle.ghc_term.specs.Tree.{Tree, Occurs}
use Rattle.ghc_term.specs.Goal.{Goal}
use Rattle.ghc_term.specs.Lists.{In}
use Rattle.ghc_term.specs.Bindings.{IsAcyclic}
use Rattle.ghc_term.specs.Store.{value_at}
use Rattle.ghc_flat.specs.Clause.{Program, Query}
use Rattle.ghc_flat.specs.Flat.{IsProgram, IsQuery}
use Rattle.ghc_flat.specs.Variables.{variables_of_goal}
use Rattle.ghc_records.specs.Record.{State, Record}
use Rattle.ghc_records.specs.Replay.{Replays, IsVariableOf}

-- The records have one replay at most.
abbrev pub ReplayIsOne : Type 0
ReplayIsOne = (P : Program) (query : Query) (rs : List Record) (s t : State) → Replays P query rs s → Replays P query rs t → s ≡ t

-- The store of the state is acyclic, and each variable of its goals and its store is the query's or made by one of the steps.
pub record IsWellMade (query : Query) (rs : List Record) (t : State) : Type 0 where
  pub acyclic : IsAcyclic (value_at t.store)
  pub goals : (g : GoalName) (b : Goal) (x : VarName) → finite.get t.goals g ≡ Some b → In x (variables_of_goal b) → IsVariableOf query rs x
  pub bound : (x : VarName) (u : Tree) → value_at t.store x ≡ Some u → IsVariableOf query rs x
  pub values : (x y : VarName) (u : Tree) → value_at t.store x ≡ Some u → Occurs y u → IsVariableOf query rs y

-- The replay of steps of an accepted program and query is well made.
abbrev pub ReplayIsWellMade : Type 0
ReplayIsWellMade =
    (P : Program) (query : Query) (rs : List Record) (t : State) → IsProgram P → IsQuery P query → Replays P query rs t → IsWellMade query rs t
