-- What solves a store and an equation.
use Rattle.std.specs.Prelude.{◌≡◌, Option, Some}
use Rattle.ghc_term.specs.declared.var_name.VarName.{VarName}
use Rattle.ghc_term.specs.Tree.{Tree, variable, integer, node, Trees, none, more}

abbrev mutual
  -- the tree with each variable replaced by a tree
  pub replace : (VarName → Tree) → Tree → Tree
  replace s (variable x) = s x
  replace s (integer k) = integer k
  replace s (node f ts) = node f (replace_all s ts)

  -- the arguments of a node with each variable replaced
  pub replace_all : (VarName → Tree) → Trees → Trees
  replace_all s none = none
  replace_all s (more t ts) = more (replace s t) (replace_all s ts)

-- An assignment of trees to all variables, closed ones among them, solves a store where each bound variable has the value of its term.
abbrev pub Solves : (VarName → Tree) → (VarName → Option Tree) → Type 0
Solves s S = (x : VarName) (t : Tree) → S x ≡ Some t → s x ≡ replace s t

-- It solves an equation where both sides have one value.
abbrev pub Equates : (VarName → Tree) → Tree → Tree → Type 0
Equates s l r = replace s l ≡ replace s r
