-- What was put is what was got and what the deque holds.
use Rattle.std.specs.Prelude.{◌≡◌, ℕ, ◌+◌, List, [], ◌∷◌}
use mathlib.Core.Option.{some}
use lib.ListN.{get_elem?}
use Rattle.ghc_term.specs.declared.goal_name.GoalName.{GoalName}
use Rattle.ghc_pool.specs.declared.rounds.rule.Hand.{Hand}

-- what a pass to a deque has: how many parts, and the names that it put and got
abbrev pub hand : ℕ → List GoalName → List GoalName → Hand
hand parts put got = record { parts = parts; put = put; got = got }

-- how many parts the right to know the whole has: more than there are workers
abbrev pub all_parts : ℕ
all_parts = 128

-- how many permits of the limit a worker is given at once, at most
abbrev pub most_permits : ℕ
most_permits = 32

-- the weights of the items, added up
abbrev pub weigh : (GoalName → ℕ) → List GoalName → ℕ
weigh h [] = 0
weigh h (x ∷ xs) = h x + weigh h xs

-- f of each, added up
abbrev pub total : (Hand → ℕ) → List Hand → ℕ
total f [] = 0
total f (v ∷ vs) = f v + total f vs

-- A pass with no part has put and got nothing.
abbrev pub IdleIsEmpty : List Hand → Type 0
IdleIsEmpty views = (port : ℕ) (v : Hand) → get_elem? views port ≡ some v → v.parts ≡ 0 → (v.put ≡ []) × (v.got ≡ [])

-- However the items are weighed, what was put is what was got and what the deque holds.
abbrev pub Balanced : List GoalName → List Hand → Type 0
Balanced items views =
    (total (λ v. v.parts) views ≡ all_parts) × ((h : GoalName → ℕ) → total (λ v. weigh h v.put) views ≡ total (λ v. weigh h v.got) views + weigh h items)
    × IdleIsEmpty views
