-- What one level of a term stands for, and how high a tree is.
use Rattle.std.specs.Prelude.{◌≡◌, ◌≢◌, ◌↔◌, ℕ, Bool, List, ◌+◌, [], max, IsTrue}
use Rattle.ghc_term.specs.declared.term.Shape.{Shape}
use Rattle.ghc_term.specs.declared.term.Shape.TheVariants.{Var, Int, Atom, Struct, Branch}
use Rattle.ghc_term.specs.declared.arguments.Arguments.{Arguments}
use Rattle.ghc_term.specs.declared.arguments.Arguments.TheVariants.{Two, Others}
use Rattle.ghc_term.specs.Tree.{Tree, variable, integer, node, Trees, none, more, trees, atom, AreClosed}
use Rattle.ghc_term.specs.Variables.{variables_of_all}
use Rattle.ghc_term.specs.inner.KeptList.{numbered}

-- the arguments in order
abbrev pub items_of : Arguments → List Tree
items_of (Two _ ts) = ts
items_of (Others _ ts) = ts.items

-- what stands with the arguments
abbrev pub closed_of : Arguments → Bool
closed_of (Two is_closed _) = is_closed
closed_of (Others is_closed _) = is_closed

-- it says whether no variable stands in them
abbrev pub KnowsClosed : Arguments → Type 0
KnowsClosed a = IsTrue (closed_of a) ↔ AreClosed (trees (items_of a))

-- the tree that one level of a term, with the arguments in it, stands for
abbrev pub tree_of : Shape → Tree
tree_of (Var _ x) = variable x
tree_of (Int k) = integer k
tree_of (Atom f) = atom f
tree_of (Struct s) = node s.value.name (trees (items_of s.value.arguments))
tree_of (Branch b) = node b.value.structure.name (trees (items_of b.value.structure.arguments))

-- a structure has at least one argument, and knows whether a variable stands in it
abbrev pub IsWellMade : Shape → Type 0
IsWellMade (Var _ x) = Unit {0}
IsWellMade (Int k) = Unit {0}
IsWellMade (Atom f) = Unit {0}
IsWellMade (Struct s) = (items_of s.value.arguments ≢ []) × KnowsClosed s.value.arguments
IsWellMade (Branch b) = (items_of b.value.structure.arguments ≢ []) × KnowsClosed b.value.structure.arguments × (b.value.kept.numbers ≡ numbered (variables_of_all (trees (items_of b.value.structure.arguments))))

abbrev mutual
  pub height : Tree → ℕ
  height (variable _) = 0
  height (integer _) = 0
  height (node _ ts) = height_of_all ts

  pub height_of_all : Trees → ℕ
  height_of_all none = 0
  height_of_all (more t ts) = max (height t + 1) (height_of_all ts)
