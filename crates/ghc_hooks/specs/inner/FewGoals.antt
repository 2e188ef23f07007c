-- The goals that a small set holds.
use Rattle.std.specs.Prelude.{◌≡◌, length}
use Rattle.std.specs.FinSet as set
use Rattle.ghc_hooks.specs.declared.few_goals.Few.{Few}
use Rattle.ghc_hooks.specs.declared.few_goals.Few.TheVariants.{Nothing, One, Two, More}
use Rattle.ghc_hooks.specs.Face.{GoalNames}

-- the goals of the set, be it empty, of one goal, of two, or larger
abbrev pub goals_held : Few → GoalNames
goals_held (Nothing a) = set.empty
goals_held (One a g) = set.insert set.empty g
goals_held (Two a pair) = set.from_list pair.goals
goals_held (More goals) = goals.value.held

-- Where there are two goals, they differ.
abbrev pub HasEachOnce : Few → Type 0
HasEachOnce (Two a pair) = (length pair.goals ≡ 2) × (set.len (goals_held (Two a pair)) ≡ 2)
HasEachOnce f = Unit {0}
