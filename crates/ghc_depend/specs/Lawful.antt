-- Lawful orders of a record, and why an order is not lawful.
use Rattle.std.specs.Prelude.{◌≡◌, ◌⊎◌, ◌↔◌, ◌<◌, ◌≤◌, ℕ, List, ◌∷◌, ◌++◌, Some, slice_get}
use Rattle.ghc_term.specs.Lists.{In}
use Rattle.ghc_records.specs.Orders.{Precedes, AreDistinct}
use Rattle.ghc_records.specs.Record.{Record, numbers}
use Rattle.ghc_depend.specs.Depend.{DependsOn}

-- The order has kept numbers alone, and none of them twice.
abbrev pub IsOfKept : List Record → List ℕ → Type 0
IsOfKept kept order = ((n : ℕ) → In n order → In n (numbers kept)) × AreDistinct order

-- The order has each kept number once, and nothing else.
abbrev pub IsOrderOf : List Record → List ℕ → Type 0
IsOrderOf kept order = IsOfKept kept order × ((n : ℕ) → In n (numbers kept) → In n order)

-- In the order, b stands before a step a on which it depends directly.
abbrev pub IsTooEarly : List Record → List ℕ → Record → Record → Type 0
IsTooEarly kept order a b = DependsOn kept b a × Precedes order b.number a.number

-- A lawful order has each kept number once, and nothing stands before a step on which it depends.
abbrev pub IsLawful : List Record → List ℕ → Type 0
IsLawful kept order = IsOrderOf kept order × ((a b : Record) → ¬ IsTooEarly kept order a b)

-- In the order, the number stands after this place.
abbrev pub StandsBehind : List ℕ → ℕ → ℕ → Type 0
StandsBehind order place n = (own : ℕ) × (slice_get order own ≡ Some n) × (place < own)

-- Where the number stands in the order in front of this place, `first` is no further.
abbrev pub IsNoFurther : List ℕ → ℕ → ℕ → ℕ → Type 0
IsNoFurther order place n first = (own : ℕ) → slice_get order own ≡ Some n → own < place → first ≤ own

-- The step of this number does not stand before one on which it depends.
abbrev pub IsInTime : List Record → List ℕ → ℕ → Type 0
IsInTime kept order n = (a b : Record) → b.number ≡ n → ¬ IsTooEarly kept order a b

-- So it is for the first steps of the order, as many as this.
abbrev pub AreInTime : List Record → List ℕ → ℕ → Type 0
AreInTime kept order count = (place n : ℕ) → place < count → slice_get order place ≡ Some n → IsInTime kept order n

-- a is the first step, in recorded order, before which b stands too early.
abbrev pub IsFirstNeeded : List Record → List ℕ → Record → Record → Type 0
IsFirstNeeded kept order b a = IsTooEarly kept order a b × ((c : Record) → IsTooEarly kept order c b → (c ≡ a) ⊎ Precedes kept a c)

-- The records in the order of these numbers.
abbrev pub IsInOrder : List Record → List ℕ → List Record → Type 0
IsInOrder kept order new = (numbers new ≡ order) × ((r : Record) → In r new ↔ In r kept)

-- s is the first of the order that is not kept or stood before.
pub record IsFirstWrong (kept : List Record) (order : List ℕ) (s : ℕ) : Type 0 where
  pub front : List ℕ
  pub behind : List ℕ
  pub splits : order ≡ front ++ s ∷ behind
  pub before : IsOfKept kept front
  pub not_new : (¬ In s (numbers kept)) ⊎ In s front

-- r is the first kept record, in recorded order, whose number is not in the order.
pub record IsFirstMissing (kept : List Record) (order : List ℕ) (r : Record) : Type 0 where
  pub front : List Record
  pub behind : List Record
  pub splits : kept ≡ front ++ r ∷ behind
  pub before : (n : ℕ) → In n (numbers front) → In n order
  pub absent : ¬ In r.number order

-- b is the first of the order that stands before a step on which it depends directly, and a is the first such step in recorded order.
pub record IsFirstTooEarly (kept : List Record) (order : List ℕ) (a b : Record) : Type 0 where
  pub front : List ℕ
  pub behind : List ℕ
  pub splits : order ≡ front ++ b.number ∷ behind
  pub before : (c d : Record) → In d.number front → ¬ IsTooEarly kept order c d
  pub early : IsTooEarly kept order a b
  pub first : (c : Record) → IsTooEarly kept order c b → (c ≡ a) ⊎ Precedes kept a c

-- IsUnlawful kept order a b: the order is not lawful, and (a, b) is the pair that tells why: (s, s) for a wrong s; else (s, 0) for a missing s; else (a, b) where b stands before a.
pub data IsUnlawful (kept : List Record) (order : List ℕ) : ℕ → ℕ → Type 0 where
  wrong : {s : ℕ} → IsFirstWrong kept order s → IsUnlawful kept order s s
  missing : {r : Record} → IsOfKept kept order → IsFirstMissing kept order r → IsUnlawful kept order r.number 0
  too_early : {a b : Record} → IsOrderOf kept order → IsFirstTooEarly kept order a b → IsUnlawful kept order a.number b.number
