-- The expressions that assignments and comparisons compute.

use Rattle.ghc_term.specs.Tree.{Tree}
use Rattle.ghc_term.specs.declared.operator.Operator.{Operator}

-- An expression is a leaf, which is a term as written, or an operator between two expressions.
pub data Expression : Type 0 where
  leaf : Tree → Expression
  operation : Operator → Expression → Expression → Expression
