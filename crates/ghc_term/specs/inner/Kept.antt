-- The variables that a structure keeps.
use Rattle.std.specs.Prelude.{ℕ, List}
use Rattle.ghc_term.specs.declared.arguments.Arguments.{Arguments}
use Rattle.ghc_term.specs.Tree.{trees}
use Rattle.ghc_term.specs.Variables.{variables_of_all}
use Rattle.ghc_term.specs.inner.KeptList.{numbered}
use Rattle.ghc_term.specs.inner.View.{items_of}

-- the numbers of the variables that stand in the arguments
abbrev pub numbers_in : Arguments → List ℕ
numbers_in a = numbered (variables_of_all (trees (items_of a)))
