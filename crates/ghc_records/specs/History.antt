-- Histories: what a save tells of a run.
use Rattle.std.specs.Prelude.{◌≡◌, ◌≢◌, ℕ, ◌<◌, ◌≤◌, List, length, map, Some}
use Rattle.ghc_term.specs.declared.goal_name.GoalName.{GoalName}
use Rattle.ghc_term.specs.Goal.{Goal}
use Rattle.ghc_term.specs.Lists.{In}
use Rattle.ghc_flat.specs.Clause.{Program, Query}
use Rattle.ghc_fire.specs.declared.act.Act.TheVariants.{ByClause as by_clause, Asked as asked}
use Rattle.ghc_records.specs.Orders.{AreDistinct}
use Rattle.ghc_records.specs.Numbers.{number_limit, kept_limit}
use Rattle.ghc_records.specs.Journal.{Step, Opening}

-- A history is the kept steps in recorded order, and the number that the next step gets.
pub record History : Type 0 where
  pub steps : List Step
  pub next : ℕ

-- A history is of the form: its steps consume a goal each, none asks for goals, a clause number is at least 1, and they have numbers from 1 on and below the next one, no two the same; and there are not too many.
pub record IsHistory (h : History) : Type 0 where
  pub few : length h.steps ≤ kept_limit
  pub numbered : (s : Step) → In s h.steps → (1 ≤ s.number) × (s.number < h.next)
  pub of_goals : (s : Step) → In s h.steps → (g : GoalName) × (s.goal ≡ Some g)
  pub unasked : (s : Step) (gs : List Goal) → In s h.steps → s.act ≢ asked gs
  pub of_clauses : (s : Step) (k : ℕ) → In s h.steps → s.act ≡ by_clause k → 1 ≤ k
  pub distinct : AreDistinct (map (λ s. s.number) h.steps)
  pub next_number : (1 ≤ h.next) × (h.next ≤ number_limit)

-- The opening of a query on which a history was loaded.
abbrev pub loaded_opening : Program → Query → List (List ℕ) → History → Opening
loaded_opening P query names h = record { program = P; query = query; names = names; steps = h.steps; next = h.next }
