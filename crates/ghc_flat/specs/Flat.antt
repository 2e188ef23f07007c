-- Which guards, clauses, programs and queries are accepted.
use Rattle.std.specs.Prelude.{◌≡◌, ◌⊎◌, ℕ, ◌+◌, List, [], ◌∷◌, length, filter, Some, slice_get, codes}
use Rattle.ghc_term.specs.declared.limit.Limit.TheVariants as limit
use Rattle.ghc_term.specs.declared.var_name.VarName.{VarName}
use Rattle.ghc_term.specs.Tree.{Tree, variable}
use Rattle.ghc_term.specs.Goal.{Goal, call, stream}
use Rattle.ghc_term.specs.Lists.{In}
use Rattle.ghc_reader.specs.declared.written.Guard.{Guard}
use Rattle.ghc_reader.specs.declared.written.Guard.TheVariants.{Item as item, Comparison as comparison}
use Rattle.ghc_reader.specs.Limits.{most}
pub use Rattle.ghc_reader.specs.Written.{AreNumbered, is_stream, IsWithinLimits}
use Rattle.ghc_flat.specs.declared.test.Test.{Test}
use Rattle.ghc_flat.specs.declared.test.Test.TheVariants.{Wait as wait, IsInteger as is_integer, IsAtom as is_atom, IsList as is_list, Compare as compare}
use Rattle.ghc_flat.specs.Clause.{Clause, Program, IsClause, IsFor, Query}
use Rattle.ghc_flat.specs.Variables.{variables_of_list, variables_of_test, variables_of_goals, variables_of_clause, firsts}

-- The predefined test of this name, on the variable x.
abbrev pub IsPredefined : List ℕ → VarName → Test → Type 0
IsPredefined f x g =
    ((f ≡ codes "wait") × (g ≡ wait x)) ⊎ ((f ≡ codes "integer") × (g ≡ is_integer x))
    ⊎ ((f ≡ codes "atom") × (g ≡ is_atom x)) ⊎ ((f ≡ codes "list") × (g ≡ is_list x))

-- The written guard makes these tests: `true` none, a predefined name of one variable its test, a comparison itself, and any other guard is not flat.
abbrev pub MakesTests : Guard → List Test → Type 0
MakesTests (item (call f [])) gs = (f ≡ codes "true") × (gs ≡ [])
MakesTests (item (call f (variable x ∷ []))) gs = (g : Test) × IsPredefined f x g × (gs ≡ g ∷ [])
MakesTests (comparison o a b) gs = gs ≡ compare o a b ∷ []
MakesTests (item _) gs = ⊥

-- A clause is flat where each variable of its guard stands in its head.
abbrev pub IsFlat : Clause → Type 0
IsFlat c = (g : Test) (x : VarName) → In g c.tests → In x (variables_of_test g) → In x (variables_of_list c.head)

-- No element of the list stands in it twice.
abbrev pub AreDistinct : {X : Type 0} → List X → Type 0
AreDistinct [] = Unit {0}
AreDistinct (x ∷ xs) = (¬ In x xs) × AreDistinct xs

-- A clause is linear where no variable stands twice in its head.
abbrev pub IsLinear : Clause → Type 0
IsLinear c = AreDistinct (variables_of_list c.head)

-- Each call among the goals has a clause of its name and arity.
abbrev pub AreDefined : Program → List Goal → Type 0
AreDefined P gs = (f : List ℕ) (ts : List Tree) → In (call f ts) gs → (k : ℕ) × (c : Clause) × IsClause P k c × IsFor f ts c

-- The most goals of a body, and of a query.
abbrev pub most_goals : ℕ
most_goals = most limit.Goals

-- What holds of an accepted clause alone: it is flat and linear, its variables are numbered, no stream stands in its body, and it is within the limits.
pub record IsWellMade (c : Clause) : Type 0 where
  pub flat : IsFlat c
  pub linear : IsLinear c
  pub numbered : AreNumbered (variables_of_clause c)
  pub closed : filter is_stream c.body ≡ []
  pub limited : IsWithinLimits c.body (length (firsts [] (variables_of_clause c)))

-- A clause is accepted in a program where it is flat and linear, its calls are defined, its variables are numbered, and no stream stands in its body.
pub record IsAccepted (P : Program) (c : Clause) : Type 0 where
  pub flat : IsFlat c
  pub linear : IsLinear c
  pub defined : AreDefined P c.body
  pub numbered : AreNumbered (variables_of_clause c)
  pub closed : filter is_stream c.body ≡ []

-- A program is one whose clauses are all accepted in it.
abbrev pub IsProgram : Program → Type 0
IsProgram P = (c : Clause) → In c P → IsAccepted P c

-- A query is one whose calls are defined, whose variables are numbered, and whose k-th stream goal is stream k.
pub record IsQuery (P : Program) (gs : Query) : Type 0 where
  pub defined : AreDefined P gs
  pub numbered : AreNumbered (variables_of_goals gs)
  pub streams : (i k : ℕ) (x : VarName) → slice_get (filter is_stream gs) i ≡ Some (stream k x) → k ≡ i + 1
