-- Variables with their bindings, in the order in which they came.
use Rattle.std.specs.Prelude.{List}
use Rattle.std.specs.Map.{keys_of}
use Rattle.std.specs.FinMap as finite
use Rattle.std.specs.Coded.{Coded, coded_list, coded×}
use Rattle.ghc_term.specs.declared.var_name.VarName.{VarName}
use Rattle.ghc_term.specs.Tree.{Tree}
use Rattle.ghc_term.specs.Store.{StoreValue}
use Rattle.ghc_term.specs.inner.VariableList.{AreDifferent}
use Rattle.ghc_term.specs.inner.Code.{name_code, tree_code}

-- variables, each with the tree to which it is bound
abbrev pub Entries : Type 0
Entries = List (VarName × Tree)

-- the code of entries: two lists of bindings with one code are one
abbrev pub entries_code : Coded Entries
entries_code = coded_list (coded× name_code tree_code)

-- No variable is bound twice.
abbrev pub AreOnce : Entries → Type 0
AreOnce es = AreDifferent (keys_of es)

-- the map of the entries, of each variable the first
abbrev pub map_of : Entries → StoreValue
map_of es = finite.from_entries es
