-- What it is to run a list of steps from a query.
use Rattle.std.specs.Prelude.{◌≡◌, ◌≢◌, ◌⊎◌, ◌≤◌, List, [], ◌∷◌, ◌++◌, length}
use Rattle.std.specs.FinMap as finite
use Rattle.ghc_term.specs.declared.var_name.VarName.{VarName}
use Rattle.ghc_term.specs.declared.goal_name.GoalName.{GoalName}
use Rattle.ghc_term.specs.Lists.{In}
use Rattle.ghc_flat.specs.Clause.{Program, Query}
use Rattle.ghc_flat.specs.Variables.{variables_of_goals}
use Rattle.ghc_fire.specs.Asked.{variables_asked}
use Rattle.ghc_records.specs.Orders.{AreDistinct}
use Rattle.ghc_records.specs.Numbers.{IsStepNumber}
use Rattle.ghc_records.specs.Record.{State, Record, numbers, with_makes, after, Fires}

-- The state of a query before any step: its goals are 0.1, 0.2, .., and nothing is bound.
abbrev pub query_state : Query → State
query_state query = record { goals = with_makes 0 1 query finite.empty; store = finite.empty }

-- Run from the state s, each step is possible in its turn, and the last leaves the state t.
abbrev pub Runs : Program → State → List Record → State → Type 0
Runs P s [] t = t ≡ s
Runs P s (r ∷ rs) t = Fires P s r × Runs P (after s r) rs t

-- Each record has a number that a step can have, and no two have one number.
abbrev pub HaveStepNumbers : List Record → Type 0
HaveStepNumbers rs = ((r : Record) → In r rs → IsStepNumber r.number) × AreDistinct (numbers rs)

-- The step of the record made the goal named g.
abbrev pub MakesGoal : Record → GoalName → Type 0
MakesGoal r g = (g.step ≡ r.number) × (1 ≤ g.place) × (g.place ≤ length r.effect.makes)

-- The step of the record made the variable x.
abbrev pub MakesVariable : Record → VarName → Type 0
MakesVariable r x = (x.step ≡ r.number) × (1 ≤ x.place) × (x.place ≤ r.effect.fresh)

-- The variable x stands in the query, or one of the steps made it.
abbrev pub IsVariableOf : Query → List Record → VarName → Type 0
IsVariableOf query rs x = In x (variables_of_goals query) ⊎ ((r : Record) × In r rs × MakesVariable r x)

-- The step names the variable x: it asks for goals in which x stands, which is none of its own.
abbrev pub Names : Record → VarName → Type 0
Names r x = In x (variables_asked r.act) × (x.step ≢ r.number)

-- Each variable that the step names is the query's, or one of these steps made it.
abbrev pub AreKnownIn : Query → List Record → Record → Type 0
AreKnownIn query rs r = (x : VarName) → Names r x → IsVariableOf query rs x

-- Each of the steps names variables alone that are the query's, or that one of the steps in front of it made.
abbrev pub NameWhatIsKnown : Query → List Record → Type 0
NameWhatIsKnown query rs = (front behind : List Record) (r : Record) → rs ≡ front ++ r ∷ behind → AreKnownIn query front r

-- The replay of the records from the query is the state t.
abbrev pub Replays : Program → Query → List Record → State → Type 0
Replays P query rs t = HaveStepNumbers rs × Runs P (query_state query) rs t × NameWhatIsKnown query rs
