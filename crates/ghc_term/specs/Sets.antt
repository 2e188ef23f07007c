-- Finite sets of variables, by what they hold.
use Rattle.std.specs.Prelude.{◌↔◌, IsTrue}
use Rattle.std.specs.FinSet as set
use Rattle.ghc_term.specs.declared.var_name.VarName.{VarName}
use Rattle.ghc_term.specs.Bindings.{name_cmp}

-- A finite set of variables.
abbrev pub Variables : Type 0
Variables = set.FinSet name_cmp

-- The set has just the variables of which P holds.
abbrev pub IsSetOf : Variables → (VarName → Type 0) → Type 0
IsSetOf s P = (x : VarName) → IsTrue (set.contains s x) ↔ P x
