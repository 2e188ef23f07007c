-- Small expressions, and what they say where it is known what their variables stand for.
use Rattle.std.specs.Prelude.{◌≡◌, ℤ, Option, Some}
use Rattle.ghc_term.specs.declared.var_name.VarName.{VarName}
use Rattle.ghc_term.specs.declared.operator.Operator.{Operator}
use Rattle.ghc_term.specs.declared.comparison.Comparison.{Comparison}
use Rattle.ghc_term.specs.Tree.{Tree}
use Rattle.ghc_term.specs.Expression.{Expression, leaf, operation}
use Rattle.ghc_flat.specs.Variables.{leaf_variables}
use Rattle.ghc_match.specs.Value.{Computes, Wants}
use Rattle.ghc_match.specs.Match.{Compares}
use Rattle.ghc_match.specs.inner.Tasks.{IsWorth}
use Rattle.ghc_match.specs.declared.small.Small.{Small}
use Rattle.ghc_match.specs.declared.small.Small.TheVariants.{Leaf, Operation}
use Rattle.ghc_match.specs.declared.small.Asked.{Asked}
use Rattle.ghc_match.specs.declared.small.Asked.TheVariants.{Waits, Worth}

-- the expression that is written so
abbrev pub spelled : Small → Expression
spelled (Leaf t) = leaf t.now
spelled (Operation o a b) = operation o (leaf a.now) (leaf b.now)

-- The expression says so: it waits, or it waits for nothing and is worth this integer, or none.
abbrev pub IsAsked : (VarName → Tree → Type 0) → Expression → Asked → Type 0
IsAsked E a Waits = (x : VarName) × Wants E (leaf_variables a) x
IsAsked E a (Worth k) = ((x : VarName) → ¬ Wants E (leaf_variables a) x) × IsWorth E a k

-- Both integers are there, and the operator makes z of them.
abbrev pub ComputesOf : Operator → Option ℤ → Option ℤ → ℤ → Type 0
ComputesOf o left right z = (x y : ℤ) × (left ≡ Some x) × (right ≡ Some y) × Computes o x y z

-- Both integers are there, and the comparison holds between them.
abbrev pub ComparesOf : Comparison → Option ℤ → Option ℤ → Type 0
ComparesOf c left right = (x y : ℤ) × (left ≡ Some x) × (right ≡ Some y) × Compares c x y
