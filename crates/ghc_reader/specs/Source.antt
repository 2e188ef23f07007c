-- What a text says, as trees without where they lie in memory.
use Rattle.std.specs.Prelude.{ℕ, ℤ, List, [], ◌∷◌, map}
use Rattle.ghc_reader.specs.declared.token.Sum.{Sum}
use Rattle.ghc_reader.specs.declared.token.Product.{Product}
use Rattle.ghc_term.specs.declared.comparison.Comparison.{Comparison}

-- a term; a list is made of cells and of the empty list
mutual
  pub data Tree : Type 0 where
    variable : List ℕ → Tree
    integer : ℤ → Tree
    structure : List ℕ → Trees → Tree
    empty : Tree
    cell : Tree → Tree → Tree

  pub data Trees : Type 0 where
    none : Trees
    some : Tree → Trees → Trees

-- an expression
pub data Value : Type 0 where
  number : ℤ → Value
  named : List ℕ → Value
  product : Product → Value → Value → Value
  sum : Sum → Value → Value → Value

-- a call, and how many tokens the text has left at its name
pub record Call : Type 0 where
  pub left : ℕ
  pub name : List ℕ
  pub arguments : Trees

-- a goal of a body or a query
pub data Goal : Type 0 where
  assign : List ℕ → Value → Goal
  call : Call → Goal
  unify : Tree → Tree → Goal

-- a test of a guard
pub data Test : Type 0 where
  plain : Goal → Test
  compare : Value → Comparison → Value → Test

-- what stands after `:-`; where no guard is written its list is empty
pub record Right : Type 0 where
  pub guard : List Test
  pub body : List Goal

-- a clause: its head, the tests of its guard and the goals of its body; either list may be empty
pub record Clause : Type 0 where
  pub head : Call
  pub guard : List Test
  pub body : List Goal

-- a list of trees as the arguments of one
abbrev pub trees_of : List Tree → Trees
trees_of [] = none
trees_of (t ∷ ts) = some t (trees_of ts)

-- the cells of these trees in front of a tail
abbrev pub cells : Trees → Tree → Tree
cells none end = end
cells (some t ts) end = cell t (cells ts end)

-- products of one level group to the left
abbrev pub products : Value → List (Product × Value) → Value
products left [] = left
products left (x ∷ xs) = products (product x.0 left x.1) xs

-- sums of one level group to the left
abbrev pub sums : Value → List (Sum × Value) → Value
sums left [] = left
sums left (x ∷ xs) = sums (sum x.0 left x.1) xs

-- goals as tests
abbrev pub plains : List Goal → List Test
plains gs = map plain gs
