-- From which kept steps one step reads and names, by the places of those steps.
use Rattle.std.specs.Prelude.{◌≡◌, ◌≢◌, ℕ, Option, Some, None, IsSome, IfSome, IfNone}
use Rattle.std.specs.Ordering.{nat_cmp, ord_min}
use Rattle.std.specs.BTreeMap.{BTreeMap, get}
use Rattle.ghc_term.specs.declared.var_name.VarName.{VarName}
use Rattle.ghc_term.specs.Bindings.{name_cmp}
use Rattle.ghc_records.specs.Record.{Record}
use Rattle.ghc_records.specs.inner.Slots.{SlotList, StandsIn}
use Rattle.ghc_records.specs.Uses.{ReadsFrom, NamesFrom}
use Rattle.ghc_depend.specs.Cause.{IsLeastRead, IsLeastNamed}
use Rattle.ghc_depend.specs.declared.sources.Sources.{Sources}

-- Of the steps in their places, Q holds of the one at this place alone; or of none.
abbrev pub IsPlaceOfOne : SlotList → (Record → Type 0) → Option ℕ → Type 0
IsPlaceOfOne ss Q (Some p) = ((a : Record) × StandsIn ss p a × Q a) × ((q : ℕ) (a : Record) → StandsIn ss q a → Q a → q ≡ p)
IsPlaceOfOne ss Q None = (q : ℕ) (a : Record) → StandsIn ss q a → ¬ Q a

-- A step stands in each place of the map.
abbrev pub AreFilled : SlotList → BTreeMap ℕ VarName → Type 0
AreFilled ss m = (p : ℕ) → IsSome (get nat_cmp m p) → (a : Record) × StandsIn ss p a

-- x is put under the place p, unless a lesser variable stands there.
abbrev pub PutsLeast : BTreeMap ℕ VarName → BTreeMap ℕ VarName → ℕ → VarName → Type 0
PutsLeast m n p x =
    ((z : VarName) × (get nat_cmp n p ≡ Some z) × IfSome (get nat_cmp m p) (λ y. z ≡ ord_min name_cmp y x) × IfNone (get nat_cmp m p) (z ≡ x))
    × ((q : ℕ) → q ≢ p → get nat_cmp n q ≡ get nat_cmp m q)

-- x is the least variable that b read and a bound, if there is one
abbrev pub IsReadOf : Record → Record → Option VarName → Type 0
IsReadOf b a x = IfSome x (IsLeastRead b a) × IfNone x ((y : VarName) → ¬ ReadsFrom b a y)

-- x is the least variable that b names and a made, if there is one
abbrev pub IsNameOf : Record → Record → Option VarName → Type 0
IsNameOf b a x = IfSome x (IsLeastNamed b a) × IfNone x ((y : VarName) → ¬ NamesFrom b a y)

-- Under the place of each step that bound what b read stands the least such variable.
abbrev pub AreLeastReads : SlotList → Record → BTreeMap ℕ VarName → Type 0
AreLeastReads ss b reads = AreFilled ss reads × ((p : ℕ) (a : Record) → StandsIn ss p a → IsReadOf b a (get nat_cmp reads p))

-- Under the place of each step that made what b names stands the least such variable.
abbrev pub AreLeastNames : SlotList → Record → BTreeMap ℕ VarName → Type 0
AreLeastNames ss b names = AreFilled ss names × ((p : ℕ) (a : Record) → StandsIn ss p a → IsNameOf b a (get nat_cmp names p))

-- These are the steps from which b reads and names.
abbrev pub AreSources : SlotList → Record → Sources → Type 0
AreSources ss b sources = AreLeastReads ss b sources.reads × AreLeastNames ss b sources.names
