-- What a search for a variable does at a variable.
use Rattle.std.specs.Prelude.{◌≡◌, ◌⊎◌, List, [], ◌∷◌, ◌++◌, Option, Some, None}
use Rattle.ghc_term.specs.declared.var_name.VarName.{VarName}
use Rattle.ghc_term.specs.Tree.{Tree, Occurs}
use Rattle.ghc_term.specs.Lists.{In}

-- the value of a variable, if there is one
abbrev pub value_list : Option Tree → List Tree
value_list None = []
value_list (Some t) = t ∷ []

-- The variable x was among those seen, or it is now, and its value is among the trees that are open.
abbrev pub Sees : (VarName → Option Tree) → VarName → List VarName → List VarName → List Tree → List Tree → Type 0
Sees T x seen seen' open_ones open' =
    (In x seen × (seen' ≡ seen) × (open' ≡ open_ones)) ⊎ ((seen' ≡ seen ++ x ∷ []) × (open' ≡ open_ones ++ value_list (T x)))

-- The variable stands in the value, if there is one.
abbrev pub StandsInValue : Option Tree → VarName → Type 0
StandsInValue o y = (t : Tree) × (o ≡ Some t) × Occurs y t
