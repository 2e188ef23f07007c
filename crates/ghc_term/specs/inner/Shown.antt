-- The tree of a term that is lent in parts.
use Rattle.std.specs.Prelude.{◌≢◌, []}
use Rattle.ghc_term.specs.Tree.{Tree, variable, integer, node, trees, atom}
use Rattle.ghc_term.specs.declared.view.TermView.{TermView}
use Rattle.ghc_term.specs.declared.view.TermView.TheVariants.{Var, Int, Atom, Struct}

-- the tree that a view lends: a variable, an integer, an atom, or a structure
abbrev pub shown : TermView → Tree
shown (Var x) = variable x
shown (Int k) = integer k
shown (Atom f) = atom f.now
shown (Struct f ts) = node f.now (trees ts.now)

-- a structure is lent with at least one argument
abbrev pub HasArgument : TermView → Type 0
HasArgument (Var x) = Unit {0}
HasArgument (Int k) = Unit {0}
HasArgument (Atom f) = Unit {0}
HasArgument (Struct f ts) = ts.now ≢ []
