-- Places of steps: those of the slots in which they stand, in recorded order.
use Rattle.std.specs.Prelude.{◌≡◌, ◌⊎◌, ◌↔◌, ◌≤◌, ℕ, List, ◌∷◌, Option, Some, None}
use Rattle.ghc_term.specs.declared.var_name.VarName.{VarName}
use Rattle.ghc_term.specs.Lists.{In}
use Rattle.ghc_records.specs.Orders.{Picks}
use Rattle.ghc_records.specs.Record.{Record, numbers}
use Rattle.ghc_records.specs.Uses.{Binds}
use Rattle.ghc_records.specs.inner.Slots.{SlotList, held_in, held_before, StandsIn}
use Rattle.ghc_records.specs.UseIndex.{StepDependsOn}
use Rattle.ghc_depend.specs.Depend.{Follows}

-- The first place where a record stands of whose number P holds is this one; none, where P holds of the number of no record.
abbrev pub IsFirstWhere : SlotList → (ℕ → Type 0) → Option ℕ → Type 0
IsFirstWhere ss P None = (r : Record) → In r (held_in ss) → ¬ P r.number
IsFirstWhere ss P (Some p) = ((b : Record) × StandsIn ss p b × P b.number) × ((c : Record) (q : ℕ) → StandsIn ss q c → P c.number → p ≤ q)

-- The first place where a record of one of these numbers stands is this one; none, where no such record is kept.
abbrev pub IsFirstAmong : SlotList → List ℕ → Option ℕ → Type 0
IsFirstAmong ss ns = IsFirstWhere ss (λ n. In n ns)

-- The first place where a step stands that depends directly on the step numbered n is this one; none, where no step does.
abbrev pub IsFirstUser : SlotList → ℕ → Option ℕ → Type 0
IsFirstUser ss n = IsFirstWhere ss (λ m. StepDependsOn (held_in ss) m n)

-- At this place stands a step that depends directly on the step numbered n.
abbrev pub IsPlaceOfUser : SlotList → ℕ → ℕ → Type 0
IsPlaceOfUser ss n p = (b : Record) × StandsIn ss p b × StepDependsOn (held_in ss) b.number n

-- The places of the records of these numbers were put to the old ones.
abbrev pub HasPlacesOf : SlotList → List ℕ → List ℕ → List ℕ → Type 0
HasPlacesOf ss ns old new = (p : ℕ) → In p new ↔ (In p old ⊎ ((b : Record) × StandsIn ss p b × In b.number ns))

-- The places of the steps that depend directly on the step numbered n were put to the old ones.
abbrev pub HasPlacesOfUsers : SlotList → ℕ → List ℕ → List ℕ → Type 0
HasPlacesOfUsers ss n old new = (p : ℕ) → In p new ↔ (In p old ⊎ IsPlaceOfUser ss n p)

-- The steps stand at these places, one at each, and these are the variables that they bound.
abbrev pub IsOfSteps : SlotList → List Record → List ℕ → List VarName → Type 0
IsOfSteps ss rs places bound =
    ((p : ℕ) → In p places → (r : Record) × StandsIn ss p r × In r rs) × ((r : Record) → In r rs → (p : ℕ) × StandsIn ss p r × In p places)
    × ((x : VarName) → In x bound ↔ ((r : Record) × In r rs × Binds r x))

-- These are the numbers of a's consequences in the slots before this place, and the places and bound variables of a and of these.
abbrev pub IsSoFar : SlotList → Record → ℕ → List ℕ → List VarName → List ℕ → Type 0
IsSoFar ss a place places bound items =
    (found : List Record) × Picks (Follows (held_in ss) a) (held_before place ss) found × (numbers found ≡ items) × IsOfSteps ss (a ∷ found) places bound
