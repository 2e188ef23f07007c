-- Numbers under the names of goals, of which those of the first two goals of steps stand in a list, two places for each step.
use Rattle.std.specs.Prelude.{◌≡◌, ◌⊎◌, ℕ, zero, suc, ◌+◌, ◌/◌, ◌%◌, List, [], ◌∷◌, ◌++◌, Option, Some, None, slice_index_or}
use Rattle.std.specs.FinMap as finite
use Rattle.ghc_term.specs.declared.goal_name.GoalName.{GoalName}
use Rattle.ghc_term.specs.GoalMap.{goal_cmp}

-- the goal is the first or the second of its step
abbrev pub IsNear : GoalName → Type 0
IsNear g = (g.place ≡ 1) ⊎ (g.place ≡ 2)

-- the goal that a place of the list is for
abbrev pub near_name : ℕ → GoalName
near_name s = record { step = s / 2; place = s % 2 + 1 }

-- a place with 0 has no number, and one with a number has one more than it
abbrev pub number_in : ℕ → Option ℕ
number_in zero = None
number_in (suc n) = Some n

-- the number that the list has at the place, if it has one there
abbrev pub number_at : List ℕ → ℕ → Option ℕ
number_at ns s = number_in (slice_index_or ns s 0)

-- the numbers of the list, each under the goal of its place, where the first place is the s-th
abbrev pub near_numbers : ℕ → List ℕ → List (GoalName × ℕ)
near_numbers s [] = []
near_numbers s (zero ∷ ns) = near_numbers (s + 1) ns
near_numbers s (suc n ∷ ns) = (near_name s, n) ∷ near_numbers (s + 1) ns

-- the numbers of the entries, each under its name, of each name the first
abbrev pub numbers_in : List (GoalName × ℕ) → finite.FinMap goal_cmp ℕ
numbers_in es = finite.from_entries es

-- Under each name stands the number that the list has for it, or, where the list has none, that of its entry.
abbrev pub numbers_of : List ℕ → List (GoalName × ℕ) → finite.FinMap goal_cmp ℕ
numbers_of ns es = numbers_in (near_numbers 0 ns ++ es)

-- At each place the one list has the number that the other has, or neither has one.
abbrev pub HasSameNumbers : List ℕ → List ℕ → Type 0
HasSameNumbers ns ms = (s : ℕ) → number_at ms s ≡ number_at ns s

-- No entry is that of one of the first two goals of a step.
abbrev pub HasNoNear : List (GoalName × ℕ) → Type 0
HasNoNear es = (g : GoalName) → IsNear g → finite.get (numbers_in es) g ≡ None
