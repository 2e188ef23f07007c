-- Which kept steps bound the variables of a chain.
use Rattle.std.specs.Prelude.{◌≡◌, ℕ, List, [], ◌∷◌, None}
use Rattle.ghc_term.specs.declared.var_name.VarName.{VarName}
use Rattle.ghc_term.specs.Lists.{In}
use Rattle.ghc_term.specs.Tree.{Tree, variable}
use Rattle.ghc_term.specs.Bindings.{Leads}
use Rattle.ghc_term.specs.Store.{value_at}
use Rattle.ghc_records.specs.Record.{Record}
use Rattle.ghc_records.specs.Replay.{IsVariableOf}
use Rattle.ghc_depend.specs.Depend.{Binds}
use Rattle.ghc_core.specs.World.{World}

-- Bound w xs pairs: of the variables xs the bound ones are paired with the number of the kept step that bound each, in their order.
pub data Bound (w : World) : List VarName → List (VarName × ℕ) → Type 0 where
  no_more : Bound w [] []
  free : {x : VarName} {xs : List VarName} {pairs : List (VarName × ℕ)} → value_at w.state.store x ≡ None → Bound w xs pairs → Bound w (x ∷ xs) pairs
  bound : {x : VarName} {xs : List VarName} {pairs : List (VarName × ℕ)} (r : Record) → In r w.kept → Binds r x → Bound w xs pairs → Bound w (x ∷ xs) ((x, r.number) ∷ pairs)

-- Who bound x: the chain of x with the steps that bound its variables.
abbrev pub AreBinders : World → VarName → List (VarName × ℕ) → Type 0
AreBinders w x pairs = (xs : List VarName) × (e : Tree) × Leads (value_at w.state.store) (variable x) xs e × Bound w xs pairs

-- The variable x is none of the world: neither the query's, nor made by a kept step.
abbrev pub IsNoVariable : World → VarName → Type 0
IsNoVariable w x = ¬ IsVariableOf w.opening.query w.kept x
