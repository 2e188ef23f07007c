-- The trees that terms stand for.
use Rattle.std.specs.Prelude.{◌≡◌, ℕ, ℤ, List, [], ◌∷◌, ◌⊎◌, codes}
use Rattle.ghc_term.specs.declared.var_name.VarName.{VarName}

-- A tree is a variable, an integer, or a name over its arguments: an atom has none, a structure one or more.
mutual
  pub data Tree : Type 0 where
    variable : VarName → Tree
    integer : ℤ → Tree
    node : List ℕ → Trees → Tree

  -- The arguments of a node are none, or a tree and more of them.
  pub data Trees : Type 0 where
    none : Trees
    more : Tree → Trees → Trees

-- the arguments of a node, from a list
abbrev pub trees : List Tree → Trees
trees [] = none
trees (t ∷ ts) = more t (trees ts)

-- the arguments of a node, as a list
abbrev pub list_of : Trees → List Tree
list_of none = []
list_of (more t ts) = t ∷ list_of ts

-- an atom
abbrev pub atom : List ℕ → Tree
atom f = node f none

-- the empty list, `[]`
abbrev pub nil : Tree
nil = atom (codes "[]")

-- a list cell, `[t|u]`
abbrev pub cons : Tree → Tree → Tree
cons t u = node (codes ".") (more t (more u none))

abbrev mutual
  -- the variable x stands in the tree
  pub Occurs : VarName → Tree → Type 0
  Occurs x (variable y) = x ≡ y
  Occurs x (integer _) = ⊥
  Occurs x (node _ ts) = OccursIn x ts

  -- the variable x stands in one of the trees
  pub OccursIn : VarName → Trees → Type 0
  OccursIn x none = ⊥
  OccursIn x (more t ts) = Occurs x t ⊎ OccursIn x ts

-- no variable stands in the tree
abbrev pub IsClosed : Tree → Type 0
IsClosed t = (x : VarName) → ¬ Occurs x t

-- no variable stands in the trees
abbrev pub AreClosed : Trees → Type 0
AreClosed ts = (x : VarName) → ¬ OccursIn x ts

-- an integer, an atom or a structure
abbrev pub IsValue : Tree → Type 0
IsValue (variable _) = ⊥
IsValue (integer _) = Unit {0}
IsValue (node _ _) = Unit {0}
