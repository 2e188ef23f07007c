-- What a program, a query or an input term may not exceed.
use Rattle.std.specs.Prelude.{ℕ, List, [], ◌∷◌, length, Option, nat_lt}
use Rattle.std.specs.List.{find}
use Rattle.ghc_term.specs.declared.limit.Limit.{Limit}
use Rattle.ghc_term.specs.declared.limit.Limit.TheVariants as limit
use Rattle.ghc_reader.specs.Source.{Tree, Goal, Clause}
use Rattle.ghc_reader.specs.Amounts.{largest, widest, widest_goals, widest_clause, goals_of_clause, names_of_goals, names_of_clause, variables, levels_of_goal, nodes}

-- the limits on trees, in the order in which they are tested
abbrev pub in_order : List Limit
in_order = limit.Clauses ∷ limit.Arity ∷ limit.Goals ∷ limit.Variables ∷ limit.Depth ∷ limit.Term ∷ []

-- the most that a tree may have of it
abbrev pub most : Limit → ℕ
most limit.Clauses = 10000
most limit.Arity = 255
most limit.Goals = 1000
most limit.Variables = 1000
most limit.Depth = 1000
most limit.Term = 10000
most _ = 0

-- the first of the limits that these amounts exceed
abbrev pub first_exceeded : (Limit → ℕ) → Option Limit
first_exceeded amount = find (λ l. nat_lt (most l) (amount l)) in_order

-- how much a program has: clauses, arguments of one structure, guards or goals of one clause, variables of one clause
abbrev pub of_program : List Clause → Limit → ℕ
of_program cs limit.Clauses = length cs
of_program cs limit.Arity = largest widest_clause cs
of_program cs limit.Goals = largest goals_of_clause cs
of_program cs limit.Variables = largest (λ c. variables (names_of_clause c)) cs
of_program cs _ = 0

-- how much a query has: arguments of one structure, goals, variables
abbrev pub of_query : List Goal → Limit → ℕ
of_query gs limit.Arity = widest_goals gs
of_query gs limit.Goals = length gs
of_query gs limit.Variables = variables (names_of_goals gs)
of_query gs _ = 0

-- how much is asked for in mid-run: as in a query, and operators inside one another
abbrev pub of_ask : List Goal → Limit → ℕ
of_ask gs limit.Arity = widest_goals gs
of_ask gs limit.Goals = length gs
of_ask gs limit.Variables = variables (names_of_goals gs)
of_ask gs limit.Depth = largest levels_of_goal gs
of_ask gs _ = 0

-- how much an input term has: arguments of one structure, nodes
abbrev pub of_term : Tree → Limit → ℕ
of_term t limit.Arity = widest t
of_term t limit.Term = nodes t
of_term t _ = 0
