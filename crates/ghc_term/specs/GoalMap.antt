-- Values under the names of goals.
use Rattle.std.specs.Prelude.{◌≡◌, ◌↔◌, ℕ, ◌+◌, ◌^◌, ◌<◌, ◌≤◌, List, Some, length, refl, slice_get}
use Rattle.std.specs.List.{zip}
use Rattle.std.specs.Coded.{Coded, code_by, coded×, coded_ℕ}
use Rattle.std.specs.Ordering.{nat_cmp, ordering_then}
use Rattle.std.specs.declared.cmp.Ordering.{Ordering}
use Rattle.std.specs.FinMap as finite
use Rattle.std.specs.FinSet as set
use Rattle.ghc_term.specs.declared.goal_name.GoalName.{GoalName}

-- goals by step, then place
abbrev pub goal_cmp : GoalName → GoalName → Ordering
goal_cmp g h = ordering_then (nat_cmp g.step h.step) (nat_cmp g.place h.place)

-- two names of goals with one code are one
abbrev pub goal_name_code : Coded GoalName
goal_name_code = code_by (ℕ × ℕ) (coded× coded_ℕ coded_ℕ) (λ g. (g.step, g.place)) (λ p. record { step = p.0; place = p.1 }) (λ _. refl)

-- the names under which a value stands
abbrev pub names_of : {V : Type 0} → finite.FinMap goal_cmp V → set.FinSet goal_cmp
names_of m = set.from_list (finite.keys m)

-- the values of the list, each under the name at its place
abbrev pub values_by : {V : Type 0} → List GoalName → List V → finite.FinMap goal_cmp V
values_by names values = finite.from_entries (zip names values)

-- As many values as names, fewer than 2^32; the map says of each name where it stands, so none stands twice.
abbrev pub ArePlaces : List GoalName → ℕ → finite.FinMap goal_cmp ℕ → Type 0
ArePlaces names count places = (count ≡ length names) × (length names < 2 ^ 32) × ((g : GoalName) (i : ℕ) → (finite.get places g ≡ Some i) ↔ (slice_get names i ≡ Some g))

-- There is room for as many more: in the list of names and in that of values, which is as long, among the places, and below 2^32.
abbrev pub HaveRoom : ℕ → ℕ → ℕ → ℕ → ℕ → Type 0
HaveRoom left count names values places = (count + left ≤ names) × (count + left ≤ values) × (left ≤ places) × (count + left < 2 ^ 32)
