-- Stores as finite maps from variables to trees.
use Rattle.std.specs.Prelude.{List, [], ◌∷◌, Option}
use Rattle.std.specs.Option.{option_or}
use Rattle.std.specs.FinMap as finite
use Rattle.std.specs.Coded.{Coded}
use Rattle.ghc_term.specs.declared.var_name.VarName.{VarName}
use Rattle.ghc_term.specs.Tree.{Tree}
use Rattle.ghc_term.specs.Bindings.{name_cmp}
use Rattle.ghc_term.specs.inner.Code.{tree_code, name_code}

-- A store is a finite map from variables to trees.
abbrev pub StoreValue : Type 0
StoreValue = finite.FinMap name_cmp Tree

-- two stores with one code are one
abbrev pub store_code : Coded StoreValue
store_code = finite.code name_code tree_code

-- what the store binds the variable to
abbrev pub value_at : StoreValue → VarName → Option Tree
value_at s x = finite.get s x

-- the store with these bindings more
abbrev pub with_bindings : StoreValue → (VarName → Option Tree) → VarName → Option Tree
with_bindings binds S x = option_or (value_at binds x) (S x)

-- the store with the bindings of the list more, of each variable the first
abbrev pub with_binds : List (VarName × Tree) → StoreValue → StoreValue
with_binds [] s = s
with_binds (b ∷ bs) s = finite.insert (with_binds bs s) b.0 b.1
