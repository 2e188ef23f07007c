-- The places of the steps on which a step depends directly, and the steps of a slice.
use Rattle.std.specs.Prelude.{◌≡◌, ◌⊎◌, ◌↔◌, ◌<◌, ℕ, List}
use Rattle.ghc_term.specs.declared.var_name.VarName.{VarName}
use Rattle.ghc_term.specs.declared.goal_name.GoalName.{GoalName}
use Rattle.ghc_term.specs.Goal.{Goal}
use Rattle.ghc_term.specs.Lists.{In}
use Rattle.ghc_flat.specs.Clause.{Program}
use Rattle.ghc_records.specs.Orders.{Picks}
use Rattle.ghc_records.specs.Record.{State, Record, numbers}
use Rattle.ghc_records.specs.UseIndex.{StepBinds}
use Rattle.ghc_records.specs.inner.Slots.{SlotList, StandsIn}
use Rattle.ghc_term.specs.Store.{value_at}
use Rattle.ghc_depend.specs.Deletion.{IsPartedBy}
use Rattle.ghc_depend.specs.Parts.{GavePlace}
use Rattle.ghc_depend.specs.Slices.{IsCauseOf, IsGoalSliceOf, IsSliceOf}

-- At the place p, in front of the other place, stands a step of which P holds.
abbrev pub IsInFront : SlotList → ℕ → (Record → Type 0) → ℕ → Type 0
IsInFront ss place P p = (p < place) × (a : Record) × StandsIn ss p a × P a

-- To the old places those were put that are in front of the other place, and where a step stands of which P holds.
abbrev pub HasInFront : SlotList → ℕ → (Record → Type 0) → List ℕ → List ℕ → Type 0
HasInFront ss place P old new = (p : ℕ) → In p new ↔ (In p old ⊎ IsInFront ss place P p)

-- To the old places those of the steps of these numbers were put.
abbrev pub HasNumbered : SlotList → List ℕ → List ℕ → List ℕ → Type 0
HasNumbered ss ns old new = (p : ℕ) → In p new ↔ (In p old ⊎ ((a : Record) × StandsIn ss p a × In a.number ns))

-- The step has one of these numbers.
abbrev pub IsNumbered : List ℕ → Record → Type 0
IsNumbered ns r = In r.number ns

-- Of the kept steps, found are those of these numbers and all on which they depend, in recorded order, by their numbers.
abbrev pub IsSliceTold : List Record → List ℕ → List ℕ → Type 0
IsSliceTold kept roots told = (found : List Record) × Picks (IsCauseOf kept (IsNumbered roots)) kept found × (numbers found ≡ told)

-- Told are the steps of the slice of x, in recorded order, by their numbers.
abbrev pub IsToldSliceOf : List Record → State → VarName → List ℕ → Type 0
IsToldSliceOf kept t x told = (found rest : List Record) × IsSliceOf kept t x found rest × (numbers found ≡ told)

-- Told are the steps of the slice of the place of y in the term of x, in recorded order, by their numbers.
abbrev pub IsToldPlaceSliceOf : List Record → State → VarName → VarName → List ℕ → Type 0
IsToldPlaceSliceOf kept t x y told = (found rest : List Record) × IsPartedBy kept (IsCauseOf kept (GavePlace (value_at t.store) x y)) found rest × (numbers found ≡ told)

-- These are the numbers of the kept steps that bound a variable of which Q holds.
abbrev pub AreBindersOf : List Record → (VarName → Type 0) → List ℕ → Type 0
AreBindersOf kept Q ns = (n : ℕ) → In n ns ↔ ((x : VarName) × Q x × StepBinds kept n x)

-- Told are the steps of the slice of the goal b, named g, in recorded order, by their numbers.
abbrev pub IsToldGoalSliceOf : Program → List Record → State → GoalName → Goal → List ℕ → Type 0
IsToldGoalSliceOf P kept t g b told = (found rest : List Record) × IsGoalSliceOf P kept t g b found rest × (numbers found ≡ told)
