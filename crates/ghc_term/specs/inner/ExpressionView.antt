-- What one level of an expression stands for, and how deep an expression is.
use Rattle.std.specs.Prelude.{ℕ, ◌+◌, max}
use Rattle.ghc_term.specs.declared.expr.Shape.{Shape}
use Rattle.ghc_term.specs.declared.expr.Shape.TheVariants.{Leaf, Operation}
use Rattle.ghc_term.specs.Expression.{Expression, leaf, operation}

-- the expression that one level, a leaf or an operator with its operands, stands for
abbrev pub expression_of : Shape → Expression
expression_of (Leaf t) = leaf t
expression_of (Operation o s) = operation o s.value.left s.value.right

-- how many operators stand within each other in an expression at most
abbrev pub depth_of : Expression → ℕ
depth_of (leaf t) = 0
depth_of (operation o l r) = max (depth_of l + 1) (depth_of r + 1)
