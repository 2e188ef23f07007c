-- The tree of a derivation. Functions that take tokens as well get those after the derivation, and count with
-- them how many the text has left at each call.
use Rattle.std.specs.Prelude.{ℕ, List, [], ◌∷◌, length}
use Rattle.ghc_reader.specs.declared.token.Mark.TheVariants.{Comma, Bar, Define, Stop}
use Rattle.ghc_reader.specs.declared.token.Sum.{Sum}
use Rattle.ghc_reader.specs.declared.token.Product.{Product}
use Rattle.ghc_reader.specs.declared.token.Token.{Token}
use Rattle.ghc_reader.specs.declared.token.Token.TheVariants as token
use Rattle.ghc_reader.specs.Grammar.{Term, variable, integer, call, list, Arguments, without, within, Rest, closed, whole, partial, Terms, one, more, Operand, number, named, nested, Factors, factor, factors, Expression, summand, summands, Item, goal, unify, assign, Test, plain_test, compare, Tests, last_test, next_test, Body, last, next, Right, unguarded, guarded, Clause, fact, rule, Program, done, clauses, Query, plain, stopped, arguments, tests, body, right, program}
use Rattle.ghc_reader.specs.Source as tree

abbrev mutual
  pub tree_of : Term → tree.Tree
  tree_of (variable v) = tree.variable v
  tree_of (integer n) = tree.integer n
  tree_of (call f a) = tree.structure f (arguments_of a)
  tree_of (list r) = list_of r

  pub arguments_of : Arguments → tree.Trees
  arguments_of without = tree.none
  arguments_of (within a) = trees_of a

  pub list_of : Rest → tree.Tree
  list_of closed = tree.empty
  list_of (whole a) = cells_of a tree.empty
  list_of (partial a t) = cells_of a (tree_of t)

  pub trees_of : Terms → tree.Trees
  trees_of (one t) = tree.some (tree_of t) tree.none
  trees_of (more t a) = tree.some (tree_of t) (trees_of a)

  pub cells_of : Terms → tree.Tree → tree.Tree
  cells_of (one t) end = tree.cell (tree_of t) end
  cells_of (more t a) end = tree.cell (tree_of t) (cells_of a end)

-- operators of one level group to the left: what is left of each operator is its left operand
abbrev mutual
  pub operand_of : Operand → tree.Value
  operand_of (number n) = tree.number n
  operand_of (named v) = tree.named v
  operand_of (nested e) = value_of e

  pub product_of : Factors → tree.Value
  product_of (factor u) = operand_of u
  product_of (factors u o p) = product_onto (operand_of u) o p

  pub product_onto : tree.Value → Product → Factors → tree.Value
  product_onto left o (factor u) = tree.product o left (operand_of u)
  product_onto left o (factors u o2 p) = product_onto (tree.product o left (operand_of u)) o2 p

  pub value_of : Expression → tree.Value
  value_of (summand p) = product_of p
  value_of (summands p o e) = sum_onto (product_of p) o e

  pub sum_onto : tree.Value → Sum → Expression → tree.Value
  sum_onto left o (summand p) = tree.sum o left (product_of p)
  sum_onto left o (summands p o2 e) = sum_onto (tree.sum o left (product_of p)) o2 e

-- a call, in front of these tokens
abbrev pub call_of : List ℕ → Arguments → List Token → tree.Call
call_of f a ts = record { left = length (token.Name f ∷ arguments a ts); name = f; arguments = arguments_of a }

-- a call, an equation or an assignment as a goal, in front of these tokens
abbrev pub item_of : Item → List Token → tree.Goal
item_of (goal f a) ts = tree.call (call_of f a ts)
item_of (unify s t) ts = tree.unify (tree_of s) (tree_of t)
item_of (assign v e) ts = tree.assign v (value_of e)

-- a goal or a comparison as a test of a guard, in front of these tokens
abbrev pub test_of : Test → List Token → tree.Test
test_of (plain_test i) ts = tree.plain (item_of i ts)
test_of (compare a o b) ts = tree.compare (value_of a) o (value_of b)

-- the tests of a guard in order, in front of these tokens
abbrev pub tests_of : Tests → List Token → List tree.Test
tests_of (last_test t) ts = test_of t ts ∷ []
tests_of (next_test t x) ts = test_of t (token.Mark Comma ∷ tests x ts) ∷ tests_of x ts

-- the goals of a body in order, in front of these tokens
abbrev pub goals_of : Body → List Token → List tree.Goal
goals_of (last i) ts = item_of i ts ∷ []
goals_of (next i b) ts = item_of i (token.Mark Comma ∷ body b ts) ∷ goals_of b ts

-- the guard and the body of a rule, whose full stop stands in front of these tokens
abbrev pub right_of : Right → List Token → tree.Right
right_of (unguarded b) ts = record { guard = []; body = goals_of b (token.Mark Stop ∷ ts) }
right_of (guarded t b) ts =
    let behind = token.Mark Stop ∷ ts in
    record { guard = tests_of t (token.Mark Bar ∷ body b behind); body = goals_of b behind }

-- a fact or a rule, in front of these tokens; a fact has no guard and no body goals
abbrev pub clause_of : Clause → List Token → tree.Clause
clause_of (fact f a) ts = record { head = call_of f a (token.Mark Stop ∷ ts); guard = []; body = [] }
clause_of (rule f a r) ts =
    let right_side = right_of r ts in
    record { head = call_of f a (token.Mark Define ∷ right r ts); guard = right_side.guard; body = right_side.body }

-- the clauses of a program in order, in front of these tokens
abbrev pub clauses_of : Program → List Token → List tree.Clause
clauses_of done ts = []
clauses_of (clauses c p) ts = clause_of c (program p ts) ∷ clauses_of p ts

-- the goals of a query in order, in front of these tokens
abbrev pub query_of : Query → List Token → List tree.Goal
query_of (plain b) ts = goals_of b ts
query_of (stopped b) ts = goals_of b (token.Mark Stop ∷ ts)
