-- The part of a goal by its numbers, and the store of what the goal was given.
use Rattle.std.specs.Prelude.{◌↔◌, ℕ, List}
use Rattle.std.specs.FinMap as finite
use Rattle.ghc_term.specs.declared.goal_name.GoalName.{GoalName}
use Rattle.ghc_term.specs.Goal.{Goal}
use Rattle.ghc_term.specs.Lists.{In}
use Rattle.ghc_term.specs.Store.{StoreValue, value_at}
use Rattle.ghc_records.specs.Record.{State, Record}
use Rattle.ghc_depend.specs.Depend.{IsKeptAs}
use Rattle.ghc_depend.specs.Parts.{HasWhatWasGiven, IsOfPart}

-- These are the numbers of the steps of the part of the goal g.
abbrev pub ArePartNumbers : List Record → GoalName → List ℕ → Type 0
ArePartNumbers rs g ns = (n : ℕ) → In n ns ↔ ((r : Record) × IsKeptAs rs n r × IsOfPart rs g r)

-- The store has just those bindings of the state t that the goal b, named g, was given.
abbrev pub IsStoreGiven : List Record → State → GoalName → Goal → StoreValue → Type 0
IsStoreGiven rs t g b store = HasWhatWasGiven rs (value_at t.store) g b (record { goals = finite.insert finite.empty g b; store = store })
