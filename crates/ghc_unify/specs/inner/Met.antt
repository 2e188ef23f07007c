-- Equations of two variables that were met, as pairs.
use Rattle.std.specs.Prelude.{◌≡◌, ◌⊎◌, List}
use Rattle.ghc_term.specs.declared.var_name.VarName.{VarName}
use Rattle.ghc_term.specs.Lists.{In}
use Rattle.ghc_term.specs.Tree.{Tree, variable}

-- The pair is the equation of l and r.
abbrev pub IsPair : Tree → Tree → VarName × VarName → Type 0
IsPair l r p = (l ≡ variable p.0) × (r ≡ variable p.1)

-- The equation of l and r is one of these pairs.
abbrev pub IsPairOf : Tree → Tree → List (VarName × VarName) → Type 0
IsPairOf l r ps = (p : VarName × VarName) × In p ps × IsPair l r p

-- Of the new pairs each is an old one, or the equation of l and r.
abbrev pub IsNoted : Tree → Tree → List (VarName × VarName) → List (VarName × VarName) → Type 0
IsNoted l r old new = (p : VarName × VarName) → In p new → In p old ⊎ IsPair l r p
