-- Variables that reach none but each other.
use Rattle.std.specs.Prelude.{◌≡◌, ◌≢◌, List, Option, Some}
use Rattle.ghc_term.specs.declared.var_name.VarName.{VarName}
use Rattle.ghc_term.specs.Tree.{Tree, Occurs}
use Rattle.ghc_term.specs.Lists.{In}

-- What a variable of the list is bound to has no variables but those of the list.
abbrev pub AreKnown : (VarName → Option Tree) → List VarName → Type 0
AreKnown S xs = (x : VarName) → In x xs → (t : Tree) → S x ≡ Some t → (y : VarName) → Occurs y t → In y xs

-- The same of all of them but x.
abbrev pub AreKnownBut : (VarName → Option Tree) → VarName → List VarName → Type 0
AreKnownBut S x xs = (z : VarName) → In z xs → z ≢ x → (t : Tree) → S z ≡ Some t → (y : VarName) → Occurs y t → In y xs
