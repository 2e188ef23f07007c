-- Chains, ends, and what a tree reaches, by what the variables are bound to.
use Rattle.std.specs.Prelude.{◌≡◌, List, [], ◌∷◌, Option, Some, None}
use Rattle.std.specs.Prelude.{cond}
use Rattle.std.specs.Ordering.{eq_by_cmp, nat_cmp, ordering_then}
use Rattle.std.specs.declared.cmp.Ordering.{Ordering}
use Rattle.ghc_term.specs.declared.var_name.VarName.{VarName}
use Rattle.ghc_term.specs.Tree.{Tree, variable, integer, node, Trees, Occurs}

-- Leads S t xs e: the chain of t is xs, and its end is e.
pub data Leads (S : VarName → Option Tree) : Tree → List VarName → Tree → Type 0 where
  at_integer : {k : _} → Leads S (integer k) [] (integer k)
  at_node : {f : _} {ts : Trees} → Leads S (node f ts) [] (node f ts)
  at_free : {x : VarName} → S x ≡ None → Leads S (variable x) (x ∷ []) (variable x)
  along : {x : VarName} {t e : Tree} {xs : List VarName} → S x ≡ Some t → Leads S t xs e → Leads S (variable x) (x ∷ xs) e

-- Reaches S t x: x stands in t, or in the value of a variable that t reaches.
pub data Reaches (S : VarName → Option Tree) : Tree → VarName → Type 0 where
  here : {t : Tree} {x : VarName} → Occurs x t → Reaches S t x
  through : {t u : Tree} {x y : VarName} → Occurs y t → S y ≡ Some u → Reaches S u x → Reaches S t x

-- no value reaches its own variable
abbrev pub IsAcyclic : (VarName → Option Tree) → Type 0
IsAcyclic S = (x : VarName) (t : Tree) → S x ≡ Some t → ¬ Reaches S t x

-- Comes S t xs x: from t, by following bindings, one passes xs and comes to the variable x.
pub data Comes (S : VarName → Option Tree) : Tree → List VarName → VarName → Type 0 where
  now : {x : VarName} → Comes S (variable x) [] x
  on : {x y : VarName} {t : Tree} {xs : List VarName} → S x ≡ Some t → Comes S t xs y → Comes S (variable x) (x ∷ xs) y

-- the chain of t has the variable x
abbrev pub Passes : (VarName → Option Tree) → Tree → VarName → Type 0
Passes S t x = (xs : List VarName) × Comes S t xs x

-- variables by step, then place
abbrev pub name_cmp : VarName → VarName → Ordering
name_cmp x y = ordering_then (nat_cmp x.step y.step) (nat_cmp x.place y.place)

-- S, with x bound to t
abbrev pub with_binding : (VarName → Option Tree) → VarName → Tree → VarName → Option Tree
with_binding S x t y = cond (eq_by_cmp name_cmp y x) (Some t) (S y)
