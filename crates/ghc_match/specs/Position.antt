-- Positions in a goal and in a head.
use Rattle.std.specs.Prelude.{◌≡◌, ℕ, List, [], ◌∷◌, Option, Some, None, slice_get}
use Rattle.ghc_term.specs.declared.var_name.VarName.{VarName}
use Rattle.ghc_term.specs.Tree.{Tree, variable, node, Trees, list_of}
use Rattle.ghc_term.specs.Bindings.{Leads}

-- At S ts p t: at the position p among the arguments ts stands t, as written. A position is a list of argument numbers, and on the way down each sub-term is followed to its end.
pub data At (S : VarName → Option Tree) : List Tree → List ℕ → Tree → Type 0 where
  here : {ts : List Tree} {i : ℕ} {t : Tree} → slice_get ts i ≡ Some t → At S ts (i ∷ []) t
  down : {ts : List Tree} {i : ℕ} {p : List ℕ} {xs : List VarName} {f : List ℕ} {us : Trees} {t u : Tree}
      → slice_get ts i ≡ Some t → Leads S t xs (node f us) → At S (list_of us) p u → At S ts (i ∷ p) u

-- The store without bindings, in which a head is read.
abbrev pub unbound : VarName → Option Tree
unbound x = None

-- The chain of the variable x ends in e.
abbrev pub EndsIn : (VarName → Option Tree) → VarName → Tree → Type 0
EndsIn S x e = (xs : List VarName) × Leads S (variable x) xs e
