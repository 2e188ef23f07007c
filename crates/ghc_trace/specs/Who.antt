-- Who bound the variables of a chain, as `who` tells it.
use Rattle.std.specs.Prelude.{◌≡◌, ℕ, List, ◌++◌, codes, map}
use Rattle.std.specs.Fmt.{decimal}
use Rattle.ghc_term.specs.declared.var_name.VarName.{VarName}
use Rattle.ghc_term.specs.Text.{variable_text}
use Rattle.ghc_core.specs.World.{World}
use Rattle.ghc_trace.specs.Binders.{AreBinders}
use Rattle.ghc_trace.specs.declared.who_bound.Binder.{Binder}

-- a variable with the number of the step that bound it
abbrev pub binder_of : VarName × ℕ → Binder
binder_of p = record { variable = p.0; step = p.1 }

-- Told are the bound variables of the chain of x, in its order, each with the kept step that bound it.
abbrev pub AreBindersTold : World → VarName → List Binder → Type 0
AreBindersTold w x told = (pairs : List (VarName × ℕ)) × AreBinders w x pairs × (told ≡ map binder_of pairs)

-- a variable and the step that bound it, as `_0_1 by 2`
abbrev pub binder_text : Binder → List ℕ
binder_text b = variable_text b.variable ++ (codes " by " ++ decimal b.step)
