-- Which step used what another gave, and which depends on which.
use Rattle.std.specs.Prelude.{◌≡◌, ◌⊎◌, List, Some, IsTrue}
use Rattle.std.specs.FinMap as finite
use Rattle.std.specs.FinSet as set
use Rattle.ghc_term.specs.declared.var_name.VarName.{VarName}
use Rattle.ghc_term.specs.declared.goal_name.GoalName.{GoalName}
use Rattle.ghc_records.specs.Orders.{Precedes}
use Rattle.ghc_records.specs.Record.{Record}
pub use Rattle.ghc_records.specs.Replay.{MakesGoal, MakesVariable, Names}

-- The step b consumed a goal that the step a made.
abbrev pub Consumes : Record → Record → Type 0
Consumes b a = (g : GoalName) × (b.goal ≡ Some g) × MakesGoal a g

-- The step bound the variable x.
abbrev pub Binds : Record → VarName → Type 0
Binds r x = IsTrue (finite.contains_key r.effect.binds x)

-- The step b read the variable x, which the step a bound.
abbrev pub ReadsFrom : Record → Record → VarName → Type 0
ReadsFrom b a x = IsTrue (set.contains b.effect.reads x) × Binds a x

-- The step b names the variable x, which the step a made.
abbrev pub NamesFrom : Record → Record → VarName → Type 0
NamesFrom b a x = Names b x × MakesVariable a x

-- The step b used what the step a gave: it consumed a goal that a made, or read a variable that a bound, or names a variable that a made.
abbrev pub Uses : Record → Record → Type 0
Uses b a = Consumes b a ⊎ ((x : VarName) × ReadsFrom b a x) ⊎ ((x : VarName) × NamesFrom b a x)

-- In the record, b depends directly on the earlier a, whose goals, bindings or variables it used.
abbrev pub DependsOn : List Record → Record → Record → Type 0
DependsOn rs b a = Precedes rs a b × Uses b a
