-- What the variables are bound to where bindings stand in front of a store.
use Rattle.std.specs.Prelude.{Option}
use Rattle.ghc_term.specs.declared.var_name.VarName.{VarName}
use Rattle.ghc_term.specs.declared.overlay.Overlay.{Overlay}
use Rattle.ghc_term.specs.Tree.{Tree}
use Rattle.ghc_term.specs.Store.{value_at, with_bindings}

-- what the variable is bound to, in front or else in the store
abbrev pub value_in : Overlay → VarName → Option Tree
value_in o = with_bindings o.binds.now (value_at o.store.now.held)
