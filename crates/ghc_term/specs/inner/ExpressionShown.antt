-- The expression that is lent in parts.
use Rattle.ghc_term.specs.Expression.{Expression, leaf, operation}
use Rattle.ghc_term.specs.declared.expr_view.ExprView.{ExprView}
use Rattle.ghc_term.specs.declared.expr_view.ExprView.TheVariants.{Leaf, Operation}

-- the expression that a view lends: its leaf, or its operator between two expressions
abbrev pub shown : ExprView → Expression
shown (Leaf t) = leaf t.now
shown (Operation o l r) = operation o l.now r.now
