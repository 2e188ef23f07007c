-- Records in slots, in recorded order, with a gap in each slot whose record was taken out.
use Rattle.std.specs.Prelude.{◌≡◌, ◌≢◌, ◌↔◌, ◌+◌, ℕ, List, [], ◌∷◌, take, Option, Some, None, slice_get}
use Rattle.std.specs.Ordering.{nat_cmp}
use Rattle.std.specs.FinMap as finite
use Rattle.ghc_records.specs.Record.{Record}

-- What each slot has: a record, or nothing.
abbrev pub SlotList : Type 0
SlotList = List (Option Record)

-- The records in the slots, gaps left out.
abbrev pub held_in : SlotList → List Record
held_in [] = []
held_in (None ∷ slots) = held_in slots
held_in (Some r ∷ slots) = r ∷ held_in slots

-- the records in the slots before this place, gaps left out
abbrev pub held_before : ℕ → SlotList → List Record
held_before place slots = held_in (take place slots)

-- The slot of this place has the record. Places are compared, never counted.
abbrev pub StandsIn : SlotList → ℕ → Record → Type 0
StandsIn slots place r = slice_get slots place ≡ Some (Some r)

-- No two slots have records of one number.
abbrev pub AreOnceIn : SlotList → Type 0
AreOnceIn slots = (p q : ℕ) (a b : Record) → StandsIn slots p a → StandsIn slots q b → a.number ≡ b.number → p ≡ q

-- The slot of this place has the record of the step of this number.
abbrev pub HasNumberIn : SlotList → ℕ → ℕ → Type 0
HasNumberIn slots place n = (r : Record) × StandsIn slots place r × (r.number ≡ n)

-- The slot of this place has the record of the step of this number, which is not the number just above the place.
abbrev pub HasStrayIn : SlotList → ℕ → ℕ → Type 0
HasStrayIn slots place n = HasNumberIn slots place n × (place + 1 ≢ n)

-- The strays of a list of slots: under the number of each record that does not stand just below it, its place.
abbrev pub PlacesByNumber : Type 0
PlacesByNumber = finite.FinMap nat_cmp ℕ

-- The places of strays: those of a list, and that of the newest stray, if it stands by itself.
abbrev pub places_of : Option (ℕ × ℕ) → List (ℕ × ℕ) → PlacesByNumber
places_of None older = finite.from_entries older
places_of (Some newest) older = finite.insert (finite.from_entries older) newest.0 newest.1

-- There is room for one stray where none stands by itself.
abbrev pub room_beside : Option (ℕ × ℕ) → ℕ
room_beside None = 1
room_beside (Some newest) = 0

-- Under the number stands this now, and under each other number what stood there.
abbrev pub IsChangedAt : PlacesByNumber → PlacesByNumber → ℕ → Option ℕ → Type 0
IsChangedAt old new k o = (finite.get new k ≡ o) × ((n : ℕ) → n ≢ k → finite.get new n ≡ finite.get old n)

-- The strays are exactly those of the slots, each under its number with its place.
abbrev pub AreStraysOf : SlotList → PlacesByNumber → Type 0
AreStraysOf slots strays = (n p : ℕ) → (finite.get strays n ≡ Some p) ↔ HasStrayIn slots p n
