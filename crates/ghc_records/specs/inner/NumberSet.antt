-- Sets of the numbers of steps.
use Rattle.std.specs.Prelude.{ℕ, List, [], ◌∷◌, ◌-◌, ◌<◌, ◌≤◌, min, vec_len, vec_capacity}
use Rattle.indexmap.specs.IndexSet.{spare}
use Rattle.ghc_term.specs.Lists.{In}
use Rattle.ghc_records.specs.declared.table.number_set.Held.{Held}
use Rattle.ghc_records.specs.declared.table.number_set.Held.TheVariants.{Nothing, One, Two, Three, Listed, Tabled}

-- Each number of the list is below those after it.
abbrev pub IsRising : List ℕ → Type 0
IsRising [] = Unit
IsRising (x ∷ xs) = ((n : ℕ) → In n xs → x < n) × IsRising xs

-- how many numbers a list takes at most
abbrev pub most_listed : ℕ
most_listed = 1024

-- the numbers of the set
abbrev pub numbers_of : Held → List ℕ
numbers_of (Nothing a) = []
numbers_of (One a n) = n ∷ []
numbers_of (Two a ns) = ns
numbers_of (Three a ns) = ns
numbers_of (Listed b) = b.value.items
numbers_of (Tabled b) = b.value.keys

-- how many more it takes without memory
abbrev pub room_of : Held → ℕ
room_of (Nothing a) = 3
room_of (One a n) = 2
room_of (Two a ns) = 1
room_of (Three a ns) = 0
room_of (Listed b) = min most_listed (vec_capacity b.value) - vec_len b.value
room_of (Tabled b) = spare b.value

-- The numbers stand in the set itself.
abbrev pub IsFew : Held → Type 0
IsFew (Nothing a) = Unit
IsFew (One a n) = Unit
IsFew (Two a ns) = Unit
IsFew (Three a ns) = Unit
IsFew (Listed b) = ⊥
IsFew (Tabled b) = ⊥

-- No number stands twice: the few and the listed ones rise, and a table has each key once by itself. A list has no more than it may.
abbrev pub HoldsEachOnce : Held → Type 0
HoldsEachOnce (Nothing a) = Unit
HoldsEachOnce (One a n) = Unit
HoldsEachOnce (Two a ns) = IsRising ns
HoldsEachOnce (Three a ns) = IsRising ns
HoldsEachOnce (Listed b) = IsRising b.value.items × (vec_len b.value ≤ most_listed)
HoldsEachOnce (Tabled b) = Unit
