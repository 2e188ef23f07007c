-- How much a tree has of what a text may have only so much of: clauses, arguments, goals, variables and nodes.
use Rattle.std.specs.Prelude.{ℕ, ◌+◌, max, List, [], ◌∷◌, ◌++◌, length, Bool, ◌||◌, not, if◌then◌else◌, bytes_eq, codes}
use Rattle.std.specs.List.{list_any, flat_map}
use Rattle.ghc_reader.specs.Reserved.{count}
use Rattle.ghc_reader.specs.Source.{Tree, variable, integer, structure, empty, cell, Trees, none, some, Value, number, named, product, sum, Call, Goal, call, unify, assign, Test, plain, compare, Clause}

-- the most that one of these has, and 0 where there is none
abbrev pub largest : {X : Type 0} → (X → ℕ) → List X → ℕ
largest f [] = 0
largest f (x ∷ xs) = max (f x) (largest f xs)

-- ---- arguments

abbrev mutual
  -- the most arguments of a structure in the tree; a cell of a list has two
  pub widest : Tree → ℕ
  widest (variable _) = 0
  widest (integer _) = 0
  widest (structure _ ts) = max (count ts) (widest_of ts)
  widest empty = 0
  widest (cell t u) = max (widest t) (widest u)

  pub widest_of : Trees → ℕ
  widest_of none = 0
  widest_of (some t ts) = max (widest t) (widest_of ts)

-- the most arguments of a call or of a structure in it
abbrev pub widest_call : Call → ℕ
widest_call c = max (count c.arguments) (widest_of c.arguments)

-- the most arguments of a call or of a structure in the goal
abbrev pub widest_goal : Goal → ℕ
widest_goal (call c) = widest_call c
widest_goal (unify s t) = max (widest s) (widest t)
widest_goal (assign _ _) = 0

-- the most arguments of a call or of a structure in the test; a comparison has none
abbrev pub widest_test : Test → ℕ
widest_test (plain g) = widest_goal g
widest_test (compare _ _ _) = 0

-- the most arguments of a call or of a structure in any of the goals
abbrev pub widest_goals : List Goal → ℕ
widest_goals gs = largest widest_goal gs

-- the most arguments of a call or of a structure in head, guards and body of a clause
abbrev pub widest_clause : Clause → ℕ
widest_clause c = max (widest_call c.head) (max (largest widest_test c.guard) (widest_goals c.body))

-- ---- goals

-- the guards or the body goals of a clause, whichever are more
abbrev pub goals_of_clause : Clause → ℕ
goals_of_clause c = max (length c.guard) (length c.body)

-- ---- variables

abbrev mutual
  -- the variables of a tree as they stand there
  pub names : Tree → List (List ℕ)
  names (variable v) = v ∷ []
  names (integer _) = []
  names (structure _ ts) = names_of ts
  names empty = []
  names (cell t u) = names t ++ names u

  pub names_of : Trees → List (List ℕ)
  names_of none = []
  names_of (some t ts) = names t ++ names_of ts

-- the variables of an expression as they stand there
abbrev pub names_in : Value → List (List ℕ)
names_in (number _) = []
names_in (named v) = v ∷ []
names_in (product _ a b) = names_in a ++ names_in b
names_in (sum _ a b) = names_in a ++ names_in b

-- the variables of a goal as they stand there
abbrev pub names_of_goal : Goal → List (List ℕ)
names_of_goal (call c) = names_of c.arguments
names_of_goal (unify s t) = names s ++ names t
names_of_goal (assign v e) = v ∷ names_in e

-- the variables of a guard's test as they stand there
abbrev pub names_of_test : Test → List (List ℕ)
names_of_test (plain g) = names_of_goal g
names_of_test (compare a _ b) = names_in a ++ names_in b

-- the variables of goals as they stand there, those of one goal after those of another
abbrev pub names_of_goals : List Goal → List (List ℕ)
names_of_goals gs = flat_map names_of_goal gs

-- the variables of a clause as they stand in its head, its guards and its body
abbrev pub names_of_clause : Clause → List (List ℕ)
names_of_clause c = names_of c.head.arguments ++ flat_map names_of_test c.guard ++ names_of_goals c.body

-- `_`, which is a new variable wherever it stands
abbrev pub is_unnamed : List ℕ → Bool
is_unnamed v = bytes_eq v (codes "_")

-- How many variables these are: each `_` is one, and each other name is one, counted where it stands last.
abbrev pub variables : List (List ℕ) → ℕ
variables [] = 0
variables (v ∷ vs) = if is_unnamed v || not (list_any (bytes_eq v) vs) then variables vs + 1 else variables vs

-- ---- operators

-- How deep the operators of an expression stand inside one another. As it is printed, each of them but the outermost has brackets around it.
abbrev pub levels : Value → ℕ
levels (number _) = 0
levels (named _) = 0
levels (product _ a b) = max (levels a) (levels b) + 1
levels (sum _ a b) = max (levels a) (levels b) + 1

-- How deep the operators of a goal stand inside one another: only an assignment has any.
abbrev pub levels_of_goal : Goal → ℕ
levels_of_goal (call _) = 0
levels_of_goal (unify _ _) = 0
levels_of_goal (assign _ e) = levels e

-- ---- nodes

abbrev mutual
  -- the nodes of a tree: variables, integers, structures, cells and empty lists
  pub nodes : Tree → ℕ
  nodes (variable _) = 1
  nodes (integer _) = 1
  nodes (structure _ ts) = nodes_of ts + 1
  nodes empty = 1
  nodes (cell t u) = nodes t + nodes u + 1

  pub nodes_of : Trees → ℕ
  nodes_of none = 0
  nodes_of (some t ts) = nodes t + nodes_of ts
