-- Two expressions, two comparisons, or two goals, with one code are one.
use Rattle.std.specs.Prelude.{◌≡◌, ◌⊎◌, ℕ, List, refl, cond, nat_eq}
use Rattle.std.proofs.Common.{ap, inl, inr}
use Rattle.std.specs.Coded.{Coded, code_by, coded×, coded⊎, coded_list, coded_ℕ}
use base.Stored.{Gv, gnil, gcons}
use Rattle.ghc_term.specs.declared.comparison.Comparison.{Comparison}
use Rattle.ghc_term.specs.declared.comparison.Comparison.TheVariants.{Less, AtMost, Greater, AtLeast, Equal, NotEqual}
use Rattle.ghc_term.specs.declared.operator.Operator.{Operator}
use Rattle.ghc_term.specs.declared.operator.Operator.TheVariants.{Add, Subtract, Multiply, Divide, Modulo}
use Rattle.ghc_term.specs.declared.var_name.VarName.{VarName}
use Rattle.ghc_term.specs.Tree.{Tree}
use Rattle.ghc_term.specs.inner.Code.{tree_code, name_code}
use Rattle.ghc_term.specs.Expression.{Expression, leaf, operation}
use Rattle.ghc_term.specs.Goal.{Goal, call, unify, assign, stream}

-- the place of an operator among the operators
abbrev pub place_of : Operator → ℕ
place_of Add = 0
place_of Subtract = 1
place_of Multiply = 2
place_of Divide = 3
place_of Modulo = 4

-- the operator at a place among the operators
abbrev pub operator_at : ℕ → Operator
operator_at n = cond (nat_eq n 0) Add (cond (nat_eq n 1) Subtract (cond (nat_eq n 2) Multiply (cond (nat_eq n 3) Divide Modulo)))

-- What an operator is written as is read back as that operator.
pub operator_back : (o : Operator) → operator_at (place_of o) ≡ o
operator_back Add = refl
operator_back Subtract = refl
operator_back Multiply = refl
operator_back Divide = refl
operator_back Modulo = refl

-- the code of operators: two operators with one code are one
abbrev pub operator_code : Coded Operator
operator_code = code_by ℕ coded_ℕ place_of operator_at operator_back

-- the place of a comparison among the comparisons
abbrev pub place_of_comparison : Comparison → ℕ
place_of_comparison Less = 0
place_of_comparison AtMost = 1
place_of_comparison Greater = 2
place_of_comparison AtLeast = 3
place_of_comparison Equal = 4
place_of_comparison NotEqual = 5

-- the comparison at a place among the comparisons
abbrev pub comparison_at : ℕ → Comparison
comparison_at n = cond (nat_eq n 0) Less (cond (nat_eq n 1) AtMost (cond (nat_eq n 2) Greater (cond (nat_eq n 3) AtLeast (cond (nat_eq n 4) Equal NotEqual))))

-- What a comparison is written as is read back as that comparison.
pub comparison_back : (o : Comparison) → comparison_at (place_of_comparison o) ≡ o
comparison_back Less = refl
comparison_back AtMost = refl
comparison_back Greater = refl
comparison_back AtLeast = refl
comparison_back Equal = refl
comparison_back NotEqual = refl

-- the code of comparisons: two comparisons with one code are one
abbrev pub comparison_code : Coded Comparison
comparison_code = code_by ℕ coded_ℕ place_of_comparison comparison_at comparison_back

-- the code of an expression, which no other expression has
abbrev pub expression_code_of : Expression → Gv
expression_code_of (leaf t) = gcons gnil (tree_code.code t)
expression_code_of (operation o l r) = gcons (gcons gnil (operator_code.code o)) (gcons (expression_code_of l) (expression_code_of r))

-- Two expressions with one code are one.
pub expression_inj : (a b : Expression) → expression_code_of a ≡ expression_code_of b → a ≡ b
expression_inj (leaf t) (leaf u) e = ap leaf (tree_code.inj t u (cc))
expression_inj (leaf t) (operation o l r) e = cc
expression_inj (operation o l r) (leaf t) e = cc
expression_inj (operation o l r) (operation p m s) e =
    let a : o ≡ p = operator_code.inj o p (cc) in
    let b : l ≡ m = expression_inj l m (cc) in
    let c : r ≡ s = expression_inj r s (cc) in
    cc

-- the code of expressions: equal codes mean equal expressions
abbrev pub expression_code : Coded Expression
expression_code = record { code = expression_code_of; inj = expression_inj }

-- what a goal is made of: a call's, a unification's, an assignment's or a stream's two parts
abbrev pub Parts : Type 0
Parts = (List ℕ × List Tree) ⊎ ((Tree × Tree) ⊎ ((Tree × Expression) ⊎ (ℕ × VarName)))

-- the two parts of a goal, with what kind of goal has them
abbrev pub parts_of : Goal → Parts
parts_of (call f ts) = inl (f, ts)
parts_of (unify t u) = inr (inl (t, u))
parts_of (assign t e) = inr (inr (inl (t, e)))
parts_of (stream k x) = inr (inr (inr (k, x)))

-- the goal that is made of these parts
abbrev pub goal_from : Parts → Goal
goal_from (inl p) = call p.0 p.1
goal_from (inr (inl p)) = unify p.0 p.1
goal_from (inr (inr (inl p))) = assign p.0 p.1
goal_from (inr (inr (inr p))) = stream p.0 p.1

-- What a goal is written as is read back as that goal.
pub goal_back : (g : Goal) → goal_from (parts_of g) ≡ g
goal_back (call f ts) = refl
goal_back (unify t u) = refl
goal_back (assign t e) = refl
goal_back (stream k x) = refl

-- the code of goals: two goals with one code are one
abbrev pub goal_code : Coded Goal
goal_code =
    code_by Parts
    (coded⊎ (coded× (coded_list coded_ℕ) (coded_list tree_code)) (coded⊎ (coded× tree_code tree_code) (coded⊎ (coded× tree_code expression_code) (coded× coded_ℕ name_code))))
    parts_of goal_from goal_back
