-- Programs and queries as they are written, in the terms of the language.
use Rattle.std.specs.Prelude.{◌≡◌, ◌≢◌, ℕ, ◌+◌, ◌≤◌, List, [], ◌∷◌, ◌++◌, Bool, true, false, length, filter, Some, slice_get, codes}
use Rattle.ghc_term.specs.declared.limit.Limit.TheVariants as limit
use Rattle.ghc_term.specs.declared.var_name.VarName.{VarName}
use Rattle.ghc_term.specs.Lists.{In}
use Rattle.ghc_term.specs.Tree.{Tree}
use Rattle.ghc_term.specs.Goal.{Goal, call, unify, assign, stream}
use Rattle.ghc_term.specs.Variables.{variables_of_list, leaf_variables, variables_of_goal, variables_of_goals, firsts}
use Rattle.ghc_reader.specs.Limits.{most}
use Rattle.ghc_reader.specs.declared.written.Guard.{Guard}
use Rattle.ghc_reader.specs.declared.written.Guard.TheVariants.{Item as item, Comparison as comparison}

-- A clause as it is written is `name(head) :- guards | body.` The i-th of its variables, by first occurrence, is `_0_i`, and `variables` has their names in that order. (`true` is no goal of a body.)
pub record WrittenClause : Type 0 where
  pub name : List ℕ
  pub head : List Tree
  pub guards : List Guard
  pub body : List Goal
  pub variables : List (List ℕ)

-- A query as it is written is its goals in order, and the names of its variables, of which the i-th, by first occurrence, is `_0_i`.
pub record WrittenQuery : Type 0 where
  pub goals : List Goal
  pub variables : List (List ℕ)

-- the variables of a guard; those of a comparison are the ones whose values it computes with
abbrev pub variables_of_guard : Guard → List VarName
variables_of_guard (item g) = variables_of_goal g
variables_of_guard (comparison _ a b) = leaf_variables a ++ leaf_variables b

-- the variables of a list of guards
abbrev pub variables_of_guards : List Guard → List VarName
variables_of_guards [] = []
variables_of_guards (g ∷ gs) = variables_of_guard g ++ variables_of_guards gs

-- the variables of a written clause: head, guards, body
abbrev pub variables_of_written : WrittenClause → List VarName
variables_of_written c = variables_of_list c.head ++ variables_of_guards c.guards ++ variables_of_goals c.body

-- The i-th variable, by first occurrence, is `_0_i`.
abbrev pub AreNumbered : List VarName → Type 0
AreNumbered xs = (i : ℕ) (x : VarName) → slice_get (firsts [] xs) i ≡ Some x → x ≡ record { step = 0; place = i + 1 }

-- No two of the names are the same, but for `_`, which is a variable of its own at each place.
abbrev pub AreApart : List (List ℕ) → Type 0
AreApart names = (i j : ℕ) (v : List ℕ) → slice_get names i ≡ Some v → slice_get names j ≡ Some v → v ≢ codes "_" → i ≡ j

-- whether the goal is a stream goal
abbrev pub is_stream : Goal → Bool
is_stream (call _ _) = false
is_stream (unify _ _) = false
is_stream (assign _ _) = false
is_stream (stream _ _) = true

-- No call among the goals has more arguments than a goal may have.
abbrev pub AreNarrow : List Goal → Type 0
AreNarrow gs = (f : List ℕ) (ts : List Tree) → In (call f ts) gs → length ts ≤ most limit.Arity

-- The goals, and n variables, are no more than a clause or a query may have, and no call among the goals has more arguments than a goal may have.
pub record IsWithinLimits (gs : List Goal) (n : ℕ) : Type 0 where
  pub goals : length gs ≤ most limit.Goals
  pub variables : n ≤ most limit.Variables
  pub arguments : AreNarrow gs

-- The variables of a clause are numbered and each has its name, no stream stands in its body, and its head, its body and its variables are within the limits.
pub record IsWellWritten (c : WrittenClause) : Type 0 where
  pub numbered : AreNumbered (variables_of_written c)
  pub named : length c.variables ≡ length (firsts [] (variables_of_written c))
  pub closed : filter is_stream c.body ≡ []
  pub narrow : length c.head ≤ most limit.Arity
  pub limited : IsWithinLimits c.body (length c.variables)

-- There are no more clauses than a program may have, and each is well written.
pub record AreWellWritten (cs : List WrittenClause) : Type 0 where
  pub few : length cs ≤ most limit.Clauses
  pub each : (c : WrittenClause) → In c cs → IsWellWritten c

-- The variables of a query are numbered and each has a name of its own, or `_`, its k-th stream goal is stream k, and its goals and variables are within the limits.
pub record IsWellAsked (q : WrittenQuery) : Type 0 where
  pub numbered : AreNumbered (variables_of_goals q.goals)
  pub named : length q.variables ≡ length (firsts [] (variables_of_goals q.goals))
  pub apart : AreApart q.variables
  pub streams : (i k : ℕ) (x : VarName) → slice_get (filter is_stream q.goals) i ≡ Some (stream k x) → k ≡ i + 1
  pub limited : IsWithinLimits q.goals (length q.variables)
