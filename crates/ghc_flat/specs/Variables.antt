-- The variables of tests and clauses, in the order in which they stand there.
use Rattle.std.specs.Prelude.{List, [], ◌∷◌, ◌++◌}
use Rattle.ghc_term.specs.declared.var_name.VarName.{VarName}
pub use Rattle.ghc_term.specs.Variables.{variables, variables_of_all, variables_of_list, variables_of_expression, leaf_variables, variables_of_goal, variables_of_goals, firsts}
use Rattle.ghc_flat.specs.declared.test.Test.{Test}
use Rattle.ghc_flat.specs.declared.test.Test.TheVariants.{Wait as wait, IsInteger as is_integer, IsAtom as is_atom, IsList as is_list, Compare as compare}
use Rattle.ghc_flat.specs.Clause.{Clause}

-- the variables of a test
abbrev pub variables_of_test : Test → List VarName
variables_of_test (wait x) = x ∷ []
variables_of_test (is_integer x) = x ∷ []
variables_of_test (is_atom x) = x ∷ []
variables_of_test (is_list x) = x ∷ []
variables_of_test (compare _ a b) = leaf_variables a ++ leaf_variables b

-- the variables of a guard
abbrev pub variables_of_tests : List Test → List VarName
variables_of_tests [] = []
variables_of_tests (g ∷ gs) = variables_of_test g ++ variables_of_tests gs

-- the variables of a clause: head, guard, body
abbrev pub variables_of_clause : Clause → List VarName
variables_of_clause c = variables_of_list c.head ++ variables_of_tests c.tests ++ variables_of_goals c.body

-- the fresh variables of a clause: those of the body that do not stand in the head, by first occurrence
abbrev pub fresh_variables : Clause → List VarName
fresh_variables c = firsts (variables_of_list c.head) (variables_of_goals c.body)
