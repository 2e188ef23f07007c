-- Sets of kept steps to be taken out of the record, and the state without them.
use Rattle.std.specs.Prelude.{◌≡◌, List, Some, None}
use Rattle.std.specs.FinMap as finite
use Rattle.ghc_term.specs.declared.var_name.VarName.{VarName}
use Rattle.ghc_term.specs.declared.goal_name.GoalName.{GoalName}
use Rattle.ghc_term.specs.Lists.{In}
use Rattle.ghc_term.specs.Store.{value_at}
use Rattle.ghc_records.specs.Orders.{Picks}
use Rattle.ghc_records.specs.Record.{State, Record}
use Rattle.ghc_depend.specs.Depend.{MakesGoal, Binds, Follows}

-- The set D is closed under consequences: the consequences of its steps are in it.
abbrev pub IsClosedUnder : List Record → (Record → Type 0) → Type 0
IsClosedUnder kept D = (a b : Record) → D a → Follows kept a b → D b

-- The set D parts the kept list: gone are its steps, and left is the rest, both in recorded order.
abbrev pub IsPartedBy : List Record → (Record → Type 0) → List Record → List Record → Type 0
IsPartedBy kept D gone left = Picks D kept gone × Picks (λ r. ¬ D r) kept left

-- One of the steps made the goal named g.
abbrev pub IsMadeIn : List Record → GoalName → Type 0
IsMadeIn rs g = (r : Record) × In r rs × MakesGoal r g

-- One of the steps consumed the goal named g.
abbrev pub IsConsumedIn : List Record → GoalName → Type 0
IsConsumedIn rs g = (r : Record) × In r rs × (r.goal ≡ Some g)

-- One of the steps bound the variable x.
abbrev pub IsBoundIn : List Record → VarName → Type 0
IsBoundIn rs x = (r : Record) × In r rs × Binds r x

-- The state t is the state s without the steps gone: their bindings are gone, and so are the goals that they made; those that they consumed and did not make are there again.
pub record IsWithoutSteps (gone : List Record) (s t : State) : Type 0 where
  pub unbound : (x : VarName) → IsBoundIn gone x → value_at t.store x ≡ None
  pub bound : (x : VarName) → ¬ IsBoundIn gone x → value_at t.store x ≡ value_at s.store x
  pub unmade : (g : GoalName) → IsMadeIn gone g → finite.get t.goals g ≡ None
  pub given_back : (g : GoalName) (r : Record) → In r gone → r.goal ≡ Some g → ¬ IsMadeIn gone g → finite.get t.goals g ≡ r.consumed
  pub others : (g : GoalName) → ¬ IsMadeIn gone g → ¬ IsConsumedIn gone g → finite.get t.goals g ≡ finite.get s.goals g
