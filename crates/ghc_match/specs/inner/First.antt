-- Where the first argument of a call ends.
use Rattle.std.specs.Prelude.{◌≡◌, List, Option, Some, None, slice_get}
use Rattle.ghc_term.specs.declared.var_name.VarName.{VarName}
use Rattle.ghc_term.specs.Tree.{Tree}
use Rattle.ghc_match.specs.inner.Ends.{ChainEnds}

-- The chain of the first argument ends in e, or there is no argument.
abbrev pub FirstEnds : (VarName → Option Tree) → List Tree → Option Tree → Type 0
FirstEnds S ts None = slice_get ts 0 ≡ None
FirstEnds S ts (Some e) = (t : Tree) × (slice_get ts 0 ≡ Some t) × ChainEnds S t e
