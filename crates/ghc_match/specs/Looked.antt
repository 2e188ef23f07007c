-- What a goal looks at: the variables that decide what becomes of it.
use Rattle.std.specs.Prelude.{◌⊎◌, ℕ, Option}
use Rattle.ghc_term.specs.declared.var_name.VarName.{VarName}
use Rattle.ghc_term.specs.Tree.{Tree}
use Rattle.ghc_term.specs.Expression.{Expression, leaf, operation}
use Rattle.ghc_term.specs.Goal.{Goal, call, unify, assign, stream}
use Rattle.ghc_term.specs.Bindings.{Reaches}
use Rattle.ghc_flat.specs.Clause.{Clause, Program, IsClause, IsFor}
use Rattle.ghc_match.specs.Match.{LooksAt}

-- A leaf of the expression reaches the variable x.
abbrev pub ExpressionReaches : (VarName → Option Tree) → Expression → VarName → Type 0
ExpressionReaches S (leaf t) x = Reaches S t x
ExpressionReaches S (operation _ a b) x = ExpressionReaches S a x ⊎ ExpressionReaches S b x

-- The goal looks at x: a call by one of its clauses, a unification or an assignment where its terms reach x. A stream goal is never tried and looks at nothing.
abbrev pub GoalLooksAt : Program → (VarName → Option Tree) → Goal → VarName → Type 0
GoalLooksAt P S (call f ts) x = (k : ℕ) × (c : Clause) × IsClause P k c × IsFor f ts c × LooksAt c ts S x
GoalLooksAt P S (unify l r) x = Reaches S l x ⊎ Reaches S r x
GoalLooksAt P S (assign t a) x = Reaches S t x ⊎ ExpressionReaches S a x
GoalLooksAt P S (stream _ _) x = ⊥
