-- The variables of trees, expressions and goals, in the order in which they stand there.
use Rattle.std.specs.Prelude.{List, [], ◌∷◌, ◌++◌, cond}
use Rattle.std.specs.List.{list_any}
use Rattle.std.specs.Ordering.{eq_by_cmp}
use Rattle.ghc_term.specs.declared.var_name.VarName.{VarName}
use Rattle.ghc_term.specs.Tree.{Tree, variable, integer, node, Trees, none, more}
use Rattle.ghc_term.specs.Expression.{Expression, leaf, operation}
use Rattle.ghc_term.specs.Goal.{Goal, call, unify, assign, stream}
use Rattle.ghc_term.specs.Bindings.{name_cmp}

abbrev mutual
  -- the variables of a tree
  pub variables : Tree → List VarName
  variables (variable x) = x ∷ []
  variables (integer _) = []
  variables (node _ ts) = variables_of_all ts

  -- the variables of a node's arguments
  pub variables_of_all : Trees → List VarName
  variables_of_all none = []
  variables_of_all (more t ts) = variables t ++ variables_of_all ts

-- the variables of a list of trees
abbrev pub variables_of_list : List Tree → List VarName
variables_of_list [] = []
variables_of_list (t ∷ ts) = variables t ++ variables_of_list ts

-- the variables of an expression, those inside a structure among them
abbrev pub variables_of_expression : Expression → List VarName
variables_of_expression (leaf t) = variables t
variables_of_expression (operation _ a b) = variables_of_expression a ++ variables_of_expression b

-- the leaves of an expression that are variables themselves: those whose values it computes with
abbrev pub leaf_variables : Expression → List VarName
leaf_variables (leaf (variable x)) = x ∷ []
leaf_variables (leaf (integer _)) = []
leaf_variables (leaf (node _ _)) = []
leaf_variables (operation _ a b) = leaf_variables a ++ leaf_variables b

-- the variables of a goal
abbrev pub variables_of_goal : Goal → List VarName
variables_of_goal (call _ ts) = variables_of_list ts
variables_of_goal (unify l r) = variables l ++ variables r
variables_of_goal (assign t a) = variables t ++ variables_of_expression a
variables_of_goal (stream _ x) = x ∷ []

-- the variables of a list of goals
abbrev pub variables_of_goals : List Goal → List VarName
variables_of_goals [] = []
variables_of_goals (g ∷ gs) = variables_of_goal g ++ variables_of_goals gs

-- each variable of the list once, where it stands first, but those seen before
abbrev pub firsts : List VarName → List VarName → List VarName
firsts seen [] = []
firsts seen (x ∷ xs) = cond (list_any (eq_by_cmp name_cmp x) seen) (firsts seen xs) (x ∷ firsts (x ∷ seen) xs)
