-- What the moves of one step have done so far.
use Rattle.std.specs.Prelude.{◌≡◌, List, [], ◌∷◌, reverse, Option, Some, None}
use Rattle.std.specs.FinSet as set
use Rattle.ghc_term.specs.declared.var_name.VarName.{VarName}
use Rattle.ghc_term.specs.Tree.{Tree}
use Rattle.ghc_term.specs.Bindings.{name_cmp, with_binding}
use Rattle.ghc_unify.specs.Unify.{Move, Moves}

-- The store after a binding, if there is one.
abbrev pub with_next : (VarName → Option Tree) → Option (VarName × Tree) → VarName → Option Tree
with_next T None = T
with_next T (Some b) = with_binding T b.0 b.1

-- The bindings of a move, as a list.
abbrev pub next_list : Option (VarName × Tree) → List (VarName × Tree)
next_list None = []
next_list (Some b) = b ∷ []

-- One move on the equation (l, r), after which come the equations of the list `old`, its last one first; it may bind a variable.
abbrev pub Steps : (VarName → Option Tree) → (VarName → Option Tree) → Tree → Tree → List (Tree × Tree) → List (Tree × Tree) → set.FinSet name_cmp → set.FinSet name_cmp → Option (VarName × Tree) → Type 0
Steps S T l r old new reads grown next =
    (rs : List VarName) × Move S T ((l, r) ∷ reverse old) (with_next T next) (reverse new) (next_list next) rs × (grown ≡ set.union reads (set.from_list rs))

-- Moves on the equations of the list `old`, its last one first, up to the next binding or to the last equation.
abbrev pub Advances : (VarName → Option Tree) → (VarName → Option Tree) → List (Tree × Tree) → List (Tree × Tree) → set.FinSet name_cmp → set.FinSet name_cmp → Option (VarName × Tree) → Type 0
Advances S T old new reads grown None = (rs : List VarName) × Moves S T (reverse old) T [] [] rs × (grown ≡ set.union reads (set.from_list rs))
Advances S T old new reads grown (Some b) =
    (rs : List VarName) × Moves S T (reverse old) (with_binding T b.0 b.1) (reverse new) (b ∷ []) rs × (grown ≡ set.union reads (set.from_list rs))

-- Moves from the store T and the equations es come to an equation of which F holds.
abbrev pub FailsFrom : ((VarName → Option Tree) → Tree → Tree → Type 0) → (VarName → Option Tree) → (VarName → Option Tree) → List (Tree × Tree) → Type 0
FailsFrom F S T es =
    (U : VarName → Option Tree) × (p q : Tree) × (fs : List (Tree × Tree)) × (bs : List (VarName × Tree)) × (rs : List VarName)
    × Moves S T es U ((p, q) ∷ fs) bs rs × F U p q
