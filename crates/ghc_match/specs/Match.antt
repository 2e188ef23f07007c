-- What a clause says to a call: it refuses, waits or accepts.
use Rattle.std.specs.Prelude.{◌≡◌, ◌≢◌, ◌⊎◌, ◌↔◌, ℕ, ℤ, ◌<ℤ◌, ◌≤ℤ◌, List, length, Option, Some, codes}
use Rattle.ghc_term.specs.declared.var_name.VarName.{VarName}
use Rattle.ghc_term.specs.Tree.{Tree, variable, integer, node, none, more, list_of, IsValue}
use Rattle.ghc_term.specs.Lists.{In}
use Rattle.ghc_term.specs.Bindings.{Leads, Passes}
use Rattle.ghc_term.specs.Store.{StoreValue, value_at}
use Rattle.ghc_term.specs.declared.comparison.Comparison.{Comparison}
use Rattle.ghc_term.specs.declared.comparison.Comparison.TheVariants.{Less, AtMost, Greater, AtLeast, Equal, NotEqual}
use Rattle.ghc_flat.specs.declared.test.Test.{Test}
use Rattle.ghc_flat.specs.declared.test.Test.TheVariants.{Wait as wait, IsInteger as is_integer, IsAtom as is_atom, IsList as is_list, Compare as compare}
use Rattle.ghc_flat.specs.Clause.{Clause}
use Rattle.ghc_flat.specs.Variables.{variables_of_test}
use Rattle.ghc_term.specs.Sets.{Variables, IsSetOf}
use Rattle.ghc_match.specs.Position.{At, unbound}
use Rattle.ghc_match.specs.Value.{Number, Wants}

-- Two values agree at the top: one integer, or nodes of one name and arity.
abbrev pub AreAlike : Tree → Tree → Type 0
AreAlike (integer j) (integer k) = j ≡ k
AreAlike (node f ts) (node g us) = (f ≡ g) × (length (list_of ts) ≡ length (list_of us))
AreAlike _ _ = ⊥

-- The comparison holds between two integers.
abbrev pub Compares : Comparison → ℤ → ℤ → Type 0
Compares Less x y = x <ℤ y
Compares AtMost x y = x ≤ℤ y
Compares Greater x y = y <ℤ x
Compares AtLeast x y = y ≤ℤ x
Compares Equal x y = x ≡ y
Compares NotEqual x y = x ≢ y

-- The tree is an integer.
abbrev pub IsInteger : Tree → Type 0
IsInteger (integer _) = Unit {0}
IsInteger _ = ⊥

-- The tree is an atom, `[]` among them.
abbrev pub IsAtom : Tree → Type 0
IsAtom (node _ none) = Unit {0}
IsAtom _ = ⊥

-- The tree is a list cell or `[]`.
abbrev pub IsList : Tree → Type 0
IsList (node f none) = f ≡ codes "[]"
IsList (node f (more _ (more _ none))) = f ≡ codes "."
IsList _ = ⊥

-- The test is true of what its variables end in, where E says in which tree each ends.
abbrev pub HoldsBy : (VarName → Tree → Type 0) → Test → Type 0
HoldsBy E (wait y) = (e : Tree) × E y e × IsValue e
HoldsBy E (is_integer y) = (e : Tree) × E y e × IsInteger e
HoldsBy E (is_atom y) = (e : Tree) × E y e × IsAtom e
HoldsBy E (is_list y) = (e : Tree) × E y e × IsList e
HoldsBy E (compare o a b) = (j k : ℤ) × Number E a j × Number E b k × Compares o j k

-- An outcome: the clause refuses the call, waits for a set of variables, or accepts it with what its head variables stand for and what was read.
pub data Outcome : Type 0 where
  refuses : Outcome
  waits : Variables → Outcome
  accepts : StoreValue → Variables → Outcome

-- The clause c is called with the arguments ts in the store S.
module _ (c : Clause) (ts : List Tree) (S : VarName → Option Tree) where
  -- At the position p the head has the value h.
  abbrev pub HeadHas : List ℕ → Tree → Type 0
  HeadHas p h = At unbound c.head p h × IsValue h

  -- The head variable y stands for t: what the goal has at its position, as written.
  abbrev pub StandsFor : VarName → Tree → Type 0
  StandsFor y t = (p : List ℕ) × At unbound c.head p (variable y) × At S ts p t

  -- Where the head has a value, the goal has another one.
  abbrev pub Mismatch : Type 0
  Mismatch = (p : List ℕ) × (h t e : Tree) × (xs : List VarName) × HeadHas p h × At S ts p t × Leads S t xs e × IsValue e × (¬ AreAlike h e)

  -- Where the head has a value, the goal has the unbound variable x.
  abbrev pub HeadWants : VarName → Type 0
  HeadWants x = (p : List ℕ) × (h t : Tree) × (xs : List VarName) × HeadHas p h × At S ts p t × Leads S t xs (variable x)

  -- The head has no mismatch and waits for nothing.
  abbrev pub HeadFits : Type 0
  HeadFits = (¬ Mismatch) × ((x : VarName) → ¬ HeadWants x)

  -- What the head variable y stands for ends in e.
  abbrev pub StandsAt : VarName → Tree → Type 0
  StandsAt y e = (t : Tree) × (xs : List VarName) × StandsFor y t × Leads S t xs e

  -- The test is true of what its variables end in.
  abbrev pub Holds : Test → Type 0
  Holds g = HoldsBy StandsAt g

  -- The test waits for the unbound variable x, in which one of its variables ends.
  abbrev pub TestWants : Test → VarName → Type 0
  TestWants g x = Wants StandsAt (variables_of_test g) x

  -- The test waits for nothing, and does not hold: a value that does not exist is a no as well.
  abbrev pub SaysNo : Test → Type 0
  SaysNo g = ((x : VarName) → ¬ TestWants g x) × (¬ Holds g)

  -- The test waits for nothing, and holds.
  abbrev pub SaysYes : Test → Type 0
  SaysYes g = ((x : VarName) → ¬ TestWants g x) × Holds g

  -- A test of the guard says no, whether or not others wait.
  abbrev pub GuardSaysNo : Type 0
  GuardSaysNo = (g : Test) × In g c.tests × SaysNo g

  -- A test of the guard waits for x.
  abbrev pub GuardWants : VarName → Type 0
  GuardWants x = (g : Test) × In g c.tests × TestWants g x

  -- The clause refuses: for a mismatch, or for a test where the head fits.
  abbrev pub Refuses : Type 0
  Refuses = Mismatch ⊎ (HeadFits × GuardSaysNo)

  -- The clause waits for x: at its head if there is no mismatch, or at its guard if the head fits and no test says no.
  abbrev pub WaitsFor : VarName → Type 0
  WaitsFor x = ((¬ Mismatch) × HeadWants x) ⊎ (HeadFits × (¬ GuardSaysNo) × GuardWants x)

  -- The clause accepts: its head fits and each test says yes.
  abbrev pub Accepts : Type 0
  Accepts = HeadFits × ((g : Test) → In g c.tests → SaysYes g)

  -- The variable x is on the chain of a place where the head has a value, or of what a variable of the guard stands for. It is looked at by any outcome, and read where the clause accepts.
  abbrev pub LooksAt : VarName → Type 0
  LooksAt x =
      ((p : List ℕ) × (h t : Tree) × HeadHas p h × At S ts p t × Passes S t x)
      ⊎ ((g : Test) × (y : VarName) × (t : Tree) × In g c.tests × In y (variables_of_test g) × StandsFor y t × Passes S t x)

  -- The clause has this outcome.
  abbrev pub HasOutcome : Outcome → Type 0
  HasOutcome refuses = Refuses
  HasOutcome (waits xs) = IsSetOf xs WaitsFor × ((x : VarName) × WaitsFor x)
  HasOutcome (accepts theta reads) = Accepts × ((y : VarName) (t : Tree) → (value_at theta y ≡ Some t) ↔ StandsFor y t) × IsSetOf reads LooksAt
