-- A walk through the values of known variables.
use Rattle.std.specs.Prelude.{◌≡◌, ◌⊎◌, ℕ, List, take, Option, Some}
use Rattle.ghc_term.specs.declared.var_name.VarName.{VarName}
use Rattle.ghc_term.specs.Tree.{Tree, Occurs}
use Rattle.ghc_term.specs.Lists.{In}
use Rattle.ghc_term.specs.inner.Seen.{StandsInValue}

-- The variable stands in one of the trees.
abbrev pub StandsIn : VarName → List Tree → Type 0
StandsIn y ts = (t : Tree) × In t ts × Occurs y t

-- What stands in the value of a variable of the list is in the list, or stands in one of the open trees.
abbrev pub Walking : (VarName → Option Tree) → List VarName → List Tree → Type 0
Walking S xs open_ones = (x : VarName) → In x xs → (t : Tree) → S x ≡ Some t → (y : VarName) → Occurs y t → In y xs ⊎ StandsIn y open_ones

-- What stands in the values of the first n variables of the list is in the list.
abbrev pub AreFirstKnown : (VarName → Option Tree) → ℕ → List VarName → Type 0
AreFirstKnown S n xs = (x : VarName) → In x (take n xs) → (y : VarName) → StandsInValue (S x) y → In y xs
