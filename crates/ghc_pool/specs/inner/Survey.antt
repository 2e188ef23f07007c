-- The goals that a run lists.
use Rattle.std.specs.Prelude.{◌≡◌, ◌≤◌, ◌⊎◌, ℕ, List, [], ◌∷◌, ◌++◌, length}
use Rattle.ghc_term.specs.declared.goal_name.GoalName.{GoalName}

-- AreThose P goals list: the list has those of the goals of which P holds, in their order.
pub data AreThose (P : GoalName → Type 0) : List GoalName → List GoalName → Type 0 where
  at_end : AreThose P [] []
  listed : {g : GoalName} {goals list : List GoalName} → P g → AreThose P goals list → AreThose P (g ∷ goals) (g ∷ list)
  passed : {g : GoalName} {goals list : List GoalName} → ¬ P g → AreThose P goals list → AreThose P (g ∷ goals) list

-- The list has the last of the goals of which P holds, in their order: as many as asked, or all of them.
pub record AreLast (P : GoalName → Type 0) (most : ℕ) (goals list : List GoalName) : Type 0 where
  pub before : List GoalName
  pub seen : List GoalName
  pub split : goals ≡ before ++ seen
  pub those : AreThose P seen list
  pub few : length list ≤ most
  pub enough : (before ≡ []) ⊎ (length list ≡ most)
