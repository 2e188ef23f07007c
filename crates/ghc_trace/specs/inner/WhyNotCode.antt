-- What the code of `whynot` finds on its way: which variables are awaited where one is reached, and which steps let go of variables.
use Rattle.std.specs.Prelude.{◌≡◌, ◌⊎◌, ◌↔◌, Bool, true, false, ℕ, List, codes, Option, Some, None, IsTrue}
use Rattle.std.specs.FinSet as set
use Rattle.std.specs.List.Sorted.{IsStrictlySortedBy}
use Rattle.ghc_term.specs.declared.var_name.VarName.{VarName}
use Rattle.ghc_term.specs.declared.goal_name.GoalName.{GoalName}
use Rattle.ghc_term.specs.Bindings.{name_cmp}
use Rattle.ghc_term.specs.Goal.{Goal}
use Rattle.ghc_term.specs.Lists.{In}
use Rattle.ghc_term.specs.Sets.{Variables}
use Rattle.ghc_term.specs.Store.{value_at}
use Rattle.ghc_term.specs.Tree.{Tree, Occurs}
use Rattle.ghc_fire.specs.declared.act.Act.TheVariants.{ByClause as by_clause}
use Rattle.ghc_hooks.specs.Face.{IsHookedOn}
use Rattle.ghc_records.specs.Record.{Record}
use Rattle.ghc_core.specs.World.{World}
use Rattle.ghc_trace.specs.Holding.{IsReaching, goal_terms}
use Rattle.ghc_trace.specs.inner.Backward.{Parents, StandsUnder}

-- Under the variable x those of the set stand too, and nothing else came.
abbrev pub GainsEach : Parents → Parents → VarName → Variables → Type 0
GainsEach old new x ys = (w v : VarName) → StandsUnder new w v ↔ (StandsUnder old w v ⊎ ((w ≡ x) × IsTrue (set.contains ys v)))

-- Under each of the variables xs that is unbound, those of ys stand too, and nothing else came.
abbrev pub GainsUnder : (VarName → Option Tree) → Parents → Parents → Variables → Variables → Type 0
GainsUnder S old new xs ys = (w v : VarName) → StandsUnder new w v ↔ (StandsUnder old w v ⊎ (IsTrue (set.contains xs w) × (S w ≡ None) × IsTrue (set.contains ys v)))

-- The goal named g reaches the unbound variable z, and waits for y.
abbrev pub WaitsThere : World → GoalName → VarName → VarName → Type 0
WaitsThere w g z y = (value_at w.state.store z ≡ None) × IsReaching w.state (record { variable = z; goal = g }) × IsHookedOn w.opening.program w.state.goals w.state.store y g

-- Under each unbound variable that the goal named g reaches, those for which it waits stand too, and nothing else came.
abbrev pub GainsWaits : World → GoalName → Parents → Parents → Type 0
GainsWaits w g old new = (z y : VarName) → StandsUnder new z y ↔ (StandsUnder old z y ⊎ WaitsThere w g z y)

-- Under each unbound variable stand just those for which a goal waits that reaches it.
abbrev pub AreWaits : World → Parents → Type 0
AreWaits w m = (z y : VarName) → StandsUnder m z y ↔ ((g : GoalName) × WaitsThere w g z y)

-- A variable of the set stands in the term.
abbrev pub HasOneOf : Variables → Tree → Type 0
HasOneOf xs t = (x : VarName) × Occurs x t × IsTrue (set.contains xs x)

-- A variable of the set stands in one of the terms.
abbrev pub OneHasOneOf : Variables → List Tree → Type 0
OneHasOneOf xs ts = (t : Tree) × In t ts × HasOneOf xs t

-- A variable of the set stands in the goal.
abbrev pub GoalHasOneOf : Variables → Goal → Type 0
GoalHasOneOf xs b = OneHasOneOf xs (goal_terms b)

-- A variable of the set stands in one of the goals.
abbrev pub SomeHasOneOf : Variables → List Goal → Type 0
SomeHasOneOf xs bs = (b : Goal) × In b bs × GoalHasOneOf xs b

-- The step took, by a clause, a goal in which a variable of the set stands, and made none in which one does.
pub record LetsGoOf (xs : Variables) (r : Record) : Type 0 where
  pub by_some_clause : (k : ℕ) × (r.act ≡ by_clause k)
  pub had : (b : Goal) × (r.consumed ≡ Some b) × GoalHasOneOf xs b
  pub gave_on : ¬ SomeHasOneOf xs r.effect.makes

-- These are the variables of the set, by name.
abbrev pub AreByName : Variables → List VarName → Type 0
AreByName xs ys = IsStrictlySortedBy name_cmp ys × ((y : VarName) → In y ys ↔ IsTrue (set.contains xs y))

-- the last line: whether a variable may be bound
abbrev pub verdict_line : Bool → List ℕ
verdict_line true = codes "may be bound\n"
verdict_line false = codes "stays unbound\n"
