-- Where a clause refuses a call: at the first argument that clashes, or else at the first test that says no.
use Rattle.std.specs.Prelude.{◌≡◌, ◌<◌, ℕ, ◌+◌, ℤ, List, ◌∷◌, Option, Some, slice_get}
use Rattle.ghc_term.specs.declared.var_name.VarName.{VarName}
use Rattle.ghc_term.specs.Tree.{Tree, IsValue}
use Rattle.ghc_term.specs.Bindings.{Leads}
use Rattle.ghc_flat.specs.declared.test.Test.{Test}
use Rattle.ghc_flat.specs.declared.test.Test.TheVariants.{Compare as compare}
use Rattle.ghc_flat.specs.Clause.{Clause}
use Rattle.ghc_match.specs.Position.{At}
use Rattle.ghc_match.specs.Value.{Number}
use Rattle.ghc_match.specs.Match.{AreAlike, HeadHas, HeadFits, StandsAt, SaysNo}
use Rattle.ghc_match.specs.declared.refusal.RefusalPlace.{RefusalPlace}
use Rattle.ghc_match.specs.declared.refusal.RefusalPlace.TheVariants.{Argument, Test as by_test, Value as by_value}

-- P holds of the number i, and of none before it.
abbrev pub IsFirst : (ℕ → Type 0) → ℕ → Type 0
IsFirst P i = P i × ((j : ℕ) → j < i → ¬ P j)

-- Each side of the test has a value, if it compares; E says in which tree each variable ends.
abbrev pub HasValuesBy : (VarName → Tree → Type 0) → Test → Type 0
HasValuesBy E (compare o a b) = (j k : ℤ) × Number E a j × Number E b k
HasValuesBy E _ = Unit {0}

-- The clause c is called with the arguments ts in the store S.
module _ (c : Clause) (ts : List Tree) (S : VarName → Option Tree) where
  -- At a position in the argument i, where the head has a value, the goal has another one.
  abbrev pub MismatchIn : ℕ → Type 0
  MismatchIn i = (p : List ℕ) × (h t e : Tree) × (xs : List VarName) × HeadHas c ts S (i ∷ p) h × At S ts (i ∷ p) t × Leads S t xs e × IsValue e × (¬ AreAlike h e)

  -- The test i of the guard says no.
  abbrev pub TestSaysNo : ℕ → Type 0
  TestSaysNo i = (g : Test) × (slice_get c.tests i ≡ Some g) × SaysNo c ts S g

  -- Each side of the test i has a value, if it compares.
  abbrev pub TestHasValues : ℕ → Type 0
  TestHasValues i = (g : Test) × (slice_get c.tests i ≡ Some g) × HasValuesBy (StandsAt c ts S) g

  -- The clause refuses at this place, whose number counts from 1: at the first argument with a mismatch; or, where the head fits, at the first test that says no.
  abbrev pub RefusesAt : RefusalPlace → Type 0
  RefusesAt (Argument k) = (i : ℕ) × (k ≡ i + 1) × IsFirst MismatchIn i
  RefusesAt (by_test k) = HeadFits c ts S × ((i : ℕ) × (k ≡ i + 1) × IsFirst TestSaysNo i × TestHasValues i)
  RefusesAt (by_value k) = HeadFits c ts S × ((i : ℕ) × (k ≡ i + 1) × IsFirst TestSaysNo i × (¬ TestHasValues i))
