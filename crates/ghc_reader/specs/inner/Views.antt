-- The trees of what the parser makes.
use Rattle.std.specs.Prelude.{List, map}
use Rattle.ghc_reader.specs.declared.token.Sum.{Sum}
use Rattle.ghc_reader.specs.declared.token.Product.{Product}
use Rattle.ghc_reader.specs.declared.source.SourceTerm.{SourceTerm, fold-SourceTerm}
use Rattle.ghc_reader.specs.declared.source.SourceTerm.TheOpen.{SourceTerm-F}
use Rattle.ghc_reader.specs.declared.source.SourceExpression.{SourceExpression, fold-SourceExpression}
use Rattle.ghc_reader.specs.declared.source.SourceExpression.TheOpen.{SourceExpression-F}
use Rattle.ghc_reader.specs.declared.source.SourceCall.{SourceCall}
use Rattle.ghc_reader.specs.declared.source.SourceGoal.{SourceGoal}
use Rattle.ghc_reader.specs.declared.source.SourceGoal.TheVariants as goal
use Rattle.ghc_reader.specs.declared.source.SourceTest.{SourceTest}
use Rattle.ghc_reader.specs.declared.source.SourceTest.TheVariants as test
use Rattle.ghc_reader.specs.declared.source.SourceClause.{SourceClause}
use Rattle.ghc_reader.specs.declared.clause_parser.SourceRight.{SourceRight}
use Rattle.ghc_reader.specs.Source.{Tree, Trees, Value, Call, Goal, Test, Right, Clause, variable, integer, structure, empty, trees_of, cells, number, named, products, sums, call, unify, assign, plain, compare}

-- one level of a term, with each term inside already seen as its tree
abbrev pub view_step : SourceTerm-F Tree → Tree
view_step (SourceTerm-F.Variable v) = variable v
view_step (SourceTerm-F.Integer n) = integer n
view_step (SourceTerm-F.Structure f a) = structure f (trees_of a.items)
view_step SourceTerm-F.Empty = empty
view_step (SourceTerm-F.List items tail) = cells (trees_of items.items) tail.value

-- the tree of a term
abbrev pub view : SourceTerm → Tree
view = fold-SourceTerm Tree view_step

-- the trees of terms, in order
abbrev pub views : List SourceTerm → Trees
views ts = trees_of (map view ts)

-- one level of an expression, with each expression inside already seen as its tree
abbrev pub value_step : SourceExpression-F Value → Value
value_step (SourceExpression-F.Integer n) = number n
value_step (SourceExpression-F.Variable v) = named v
value_step (SourceExpression-F.Products a others) = products a.value others.items
value_step (SourceExpression-F.Sums a others) = sums a.value others.items

-- the tree of an expression
abbrev pub value_view : SourceExpression → Value
value_view = fold-SourceExpression Value value_step

-- the operands of a product, each after its operator
abbrev pub factor_views : List (Product × SourceExpression) → List (Product × Value)
factor_views xs = map (λ x. (x.0, value_view x.1)) xs

-- the operands of a sum, each after its operator
abbrev pub summand_views : List (Sum × SourceExpression) → List (Sum × Value)
summand_views xs = map (λ x. (x.0, value_view x.1)) xs

-- the tree of a call, with the trees of its arguments
abbrev pub call_view : SourceCall → Call
call_view c = record { left = c.left; name = c.name; arguments = views c.arguments.items }

-- the tree of a call, an equation or an assignment
abbrev pub goal_view : SourceGoal → Goal
goal_view (goal.Call c) = call (call_view c)
goal_view (goal.Unify s t) = unify (view s) (view t)
goal_view (goal.Assign v e) = assign v (value_view e)

-- the trees of goals, in order
abbrev pub goal_views : List SourceGoal → List Goal
goal_views gs = map goal_view gs

-- the tree of a guard's test: of its goal, or of its comparison
abbrev pub test_view : SourceTest → Test
test_view (test.Goal g) = plain (goal_view g)
test_view (test.Compare a o b) = compare (value_view a) o (value_view b)

-- the trees of a guard's tests, in order
abbrev pub test_views : List SourceTest → List Test
test_views ts = map test_view ts

-- the tree of what stands after `:-`: of the guard and the body
abbrev pub right_view : SourceRight → Right
right_view r = record { guard = test_views r.guard.items; body = goal_views r.body.items }

-- the tree of a clause: of its head, its guard and its body
abbrev pub clause_view : SourceClause → Clause
clause_view c = record { head = call_view c.head; guard = test_views c.guard.items; body = goal_views c.body.items }

-- the trees of the clauses of a program, in order
abbrev pub clause_views : List SourceClause → List Clause
clause_views cs = map clause_view cs
