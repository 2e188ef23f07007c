-- An expression is deeper than the expressions in it.
use Rattle.std.specs.Prelude.{◌≤◌, max}
use Rattle.std.proofs.Common.{arith}
use Rattle.ghc_term.specs.declared.expr.Shape.{Shape}
use Rattle.ghc_term.specs.declared.expr.Shape.TheVariants.{Leaf, Operation}
use Rattle.ghc_term.specs.declared.expr.Expr.TheDeep.{deep-Shape}
use Rattle.ghc_term.specs.inner.ExpressionView.{expression_of, depth_of}

-- The depth of an expression is above that of each operand in it.
pub deep_falls : (s : Shape) → max (deep-Shape s) 0 ≤ depth_of (expression_of s)
deep_falls (Leaf t) = omega arith
deep_falls (Operation o s) = omega arith
