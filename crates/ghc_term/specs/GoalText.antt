-- The texts of expressions and goals.
use Rattle.std.specs.Prelude.{◌≡◌, ℕ, List, ◌++◌, codes, Option}
use Rattle.std.specs.Fmt.{decimal}
use Rattle.ghc_term.specs.declared.var_name.VarName.{VarName}
use Rattle.ghc_term.specs.declared.operator.Operator.{Operator}
use Rattle.ghc_term.specs.declared.operator.Operator.TheVariants.{Add, Subtract, Multiply, Divide, Modulo}
use Rattle.ghc_term.specs.Tree.{Tree, variable}
use Rattle.ghc_term.specs.Expression.{Expression, leaf, operation}
use Rattle.ghc_term.specs.Goal.{Goal, call, unify, assign, stream}
use Rattle.ghc_term.specs.Text.{term_text, arguments_text}
use Rattle.ghc_term.specs.Resolved.{IsResolution, all_resolved}

-- an operator, with a space on each side
abbrev pub operator_text : Operator → List ℕ
operator_text Add = codes " + "
operator_text Subtract = codes " - "
operator_text Multiply = codes " * "
operator_text Divide = codes " / "
operator_text Modulo = codes " mod "

-- an operand of this text: one that has an operator stands in parentheses
abbrev pub operand : Expression → List ℕ → List ℕ
operand (leaf _) text = text
operand (operation _ _ _) text = codes "(" ++ (text ++ codes ")")

-- an expression, with the tree that r gives in the place of each tree in it
abbrev pub expression_text_by : (Tree → Tree) → Expression → List ℕ
expression_text_by r (leaf t) = term_text (r t)
expression_text_by r (operation o e f) = operand e (expression_text_by r e) ++ (operator_text o ++ operand f (expression_text_by r f))

-- a goal, with the tree that r gives in the place of each tree in it
abbrev pub goal_text_by : (Tree → Tree) → Goal → List ℕ
goal_text_by r (call f ts) = f ++ arguments_text (all_resolved r ts)
goal_text_by r (unify t u) = term_text (r t) ++ (codes " = " ++ term_text (r u))
goal_text_by r (assign t e) = term_text (r t) ++ (codes " := " ++ expression_text_by r e)
goal_text_by r (stream k x) = codes "instream " ++ (decimal k ++ (codes " " ++ term_text (r (variable x))))

-- an expression as it is written
abbrev pub expression_text : Expression → List ℕ
expression_text e = expression_text_by (λ t. t) e

-- a goal as it is written
abbrev pub goal_text : Goal → List ℕ
goal_text g = goal_text_by (λ t. t) g

-- the text is the one text of the goal with every variable replaced by what it leads to
pub record IsGoalTextOf (S : VarName → Option Tree) (g : Goal) (text : List ℕ) : Type 0 where
  pub resolved : Tree → Tree
  pub resolves : IsResolution S resolved
  pub written : text ≡ goal_text_by resolved g
  pub only : (r : Tree → Tree) → IsResolution S r → goal_text_by r g ≡ text
