-- A term is higher than the terms in it.
use Rattle.std.specs.Prelude.{◌+◌, ◌≤◌, max, List, [], ◌∷◌}
use Rattle.std.proofs.Common.{arith}
use denote.Param.Weighed.{most}
use Rattle.ghc_term.specs.declared.term.Shape.{Shape}
use Rattle.ghc_term.specs.declared.term.Shape.TheVariants.{Var, Int, Atom, Struct, Branch}
use Rattle.ghc_term.specs.declared.arguments.Arguments.{Arguments}
use Rattle.ghc_term.specs.declared.arguments.Arguments.TheVariants.{Two, Others}
use Rattle.ghc_term.specs.declared.term.Term.TheDeep.{deep-Shape, deep-Arguments}
use Rattle.ghc_term.specs.Tree.{Tree, trees}
use Rattle.ghc_term.specs.inner.View.{tree_of, items_of, height, height_of_all}

-- The height of arguments is above that of each one among them.
pub most_height : (ts : List Tree) → most (λ t. height t + 1) ts ≤ height_of_all (trees ts)
most_height [] = omega arith
most_height (t ∷ ts) = omega (arith, most_height ts)

most_items : (a : Arguments) → deep-Arguments a ≤ height_of_all (trees (items_of a))
most_items (Two _ ts) = omega (arith, most_height ts)
most_items (Others _ ts) = omega (arith, most_height ts.items)

-- The height of a term is above that of each argument in it.
pub deep_height : (s : Shape) → max (deep-Shape s) 0 ≤ height (tree_of s)
deep_height (Var _ x) = omega arith
deep_height (Int k) = omega arith
deep_height (Atom f) = omega arith
deep_height (Struct s) = omega (arith, most_items s.value.arguments)
deep_height (Branch b) = omega (arith, most_items b.value.structure.arguments)
