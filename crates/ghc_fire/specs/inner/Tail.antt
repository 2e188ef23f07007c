-- Where the chain of a stream's tail ends.
use Rattle.std.specs.Prelude.{◌≡◌, List, Option, None}
use Rattle.std.specs.FinSet as set
use Rattle.ghc_term.specs.declared.var_name.VarName.{VarName}
use Rattle.ghc_term.specs.Tree.{Tree, variable, IsValue}
use Rattle.ghc_term.specs.Bindings.{Comes}
use Rattle.ghc_term.specs.Sets.{Variables}
use Rattle.ghc_match.specs.Position.{EndsIn}

-- The chain of the tail s ends unbound at x, and these variables stand before x.
abbrev pub IsOpenAt : VarName → (VarName → Option Tree) → VarName → Variables → Type 0
IsOpenAt s S x before = (xs : List VarName) × Comes S (variable s) xs x × (S x ≡ None) × (before ≡ set.from_list xs)

-- The chain of the tail s ends in a value.
abbrev pub IsTailBound : VarName → (VarName → Option Tree) → Type 0
IsTailBound s S = (e : Tree) × EndsIn S s e × IsValue e
