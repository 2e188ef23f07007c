-- Who holds the unbound variables of a term, or those for which a goal waits.
use Rattle.std.specs.Prelude.{◌≡◌, ◌≢◌, ◌⊎◌, ◌↔◌, List, [], ◌∷◌, Option, Some, None, IsTrue}
use Rattle.std.specs.List.Sorted.{IsStrictlySortedBy}
use Rattle.std.specs.declared.cmp.Ordering.{Ordering}
use Rattle.std.specs.Ordering.{ordering_then}
use Rattle.std.specs.FinMap as finite
use Rattle.std.specs.FinSet as set
use Rattle.ghc_term.specs.declared.var_name.VarName.{VarName}
use Rattle.ghc_term.specs.declared.goal_name.GoalName.{GoalName}
use Rattle.ghc_term.specs.Bindings.{Reaches, name_cmp}
use Rattle.ghc_term.specs.GoalMap.{goal_cmp}
use Rattle.ghc_term.specs.Goal.{Goal, call, unify, assign, stream}
use Rattle.ghc_term.specs.Lists.{In}
use Rattle.ghc_term.specs.Sets.{Variables}
use Rattle.ghc_term.specs.Store.{value_at}
use Rattle.ghc_term.specs.Tree.{Tree, variable}
use Rattle.ghc_hooks.specs.Face.{IsHookedOn}
use Rattle.ghc_hooks.specs.Reached.{leaves, OneReaches}
use Rattle.ghc_records.specs.Record.{State}
use Rattle.ghc_core.specs.World.{World}
use Rattle.ghc_trace.specs.declared.holding.Holder.{Holder}

-- the terms of a goal
abbrev pub goal_terms : Goal → List Tree
goal_terms (call f ts) = ts
goal_terms (unify l r) = l ∷ r ∷ []
goal_terms (assign t a) = t ∷ leaves a
goal_terms (stream k x) = variable x ∷ []

-- One of the terms of the goal reaches the variable.
abbrev pub GoalReaches : (VarName → Option Tree) → Goal → VarName → Type 0
GoalReaches S b x = OneReaches S (goal_terms b) x

-- The variable y is unbound, and x reaches it.
abbrev pub IsUnboundIn : (VarName → Option Tree) → VarName → VarName → Type 0
IsUnboundIn S x y = Reaches S (variable x) y × (S y ≡ None)

-- The goal of the holder is there, and reaches its variable.
abbrev pub IsReaching : State → Holder → Type 0
IsReaching t h = (b : Goal) × (finite.get t.goals h.goal ≡ Some b) × GoalReaches (value_at t.store) b h.variable

-- The variable is an unbound one of the term of x, and the goal is there and reaches it.
abbrev pub Holds : State → VarName → Holder → Type 0
Holds t x h = IsUnboundIn (value_at t.store) x h.variable × IsReaching t h

-- The goal named g waits for the variable, and another goal is there and reaches it.
abbrev pub HoldsFor : World → GoalName → Holder → Type 0
HoldsFor w g h = IsHookedOn w.opening.program w.state.goals w.state.store h.variable g × (h.goal ≢ g) × IsReaching w.state h

-- Holders by variable, then goal.
abbrev pub holder_cmp : Holder → Holder → Ordering
holder_cmp h k = ordering_then (name_cmp h.variable k.variable) (goal_cmp h.goal k.goal)

-- Listed are all that hold an unbound variable of the term of x, by variable, then goal.
abbrev pub AreHolders : State → VarName → List Holder → Type 0
AreHolders t x hs = IsStrictlySortedBy holder_cmp hs × ((h : Holder) → In h hs ↔ Holds t x h)

-- Listed are all other goals that reach a variable for which the goal named g waits, by variable, then goal.
abbrev pub AreHoldersFor : World → GoalName → List Holder → Type 0
AreHoldersFor w g hs = IsStrictlySortedBy holder_cmp hs × ((h : Holder) → In h hs ↔ HoldsFor w g h)

-- Listed are all goals that reach one of these variables, by variable, then goal.
abbrev pub AreHoldersAmong : State → Variables → List Holder → Type 0
AreHoldersAmong t xs hs = IsStrictlySortedBy holder_cmp hs × ((h : Holder) → In h hs ↔ (IsTrue (set.contains xs h.variable) × IsReaching t h))

-- The goal of this name is the holder, of a variable in both sets.
abbrev pub IsHeldBy : Variables → Variables → GoalName → Holder → Type 0
IsHeldBy unbound reached g h = (h.goal ≡ g) × IsTrue (set.contains unbound h.variable) × IsTrue (set.contains reached h.variable)

-- To the old holders those were put of which P holds.
abbrev pub HasGained : List Holder → List Holder → (Holder → Type 0) → Type 0
HasGained old new P = (h : Holder) → In h new ↔ (In h old ⊎ P h)
