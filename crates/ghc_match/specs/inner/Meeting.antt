-- What a head and a call show where they meet: at each position the head's tree, and the goal's.
use Rattle.std.specs.Prelude.{◌≡◌, ◌↔◌, ◌⊎◌, ◌++◌, ℕ, List, [], Option, IsTrue}
use Rattle.std.specs.List.{zip}
use Rattle.std.specs.FinMap as finite
use Rattle.std.specs.FinSet as set
use Rattle.ghc_term.specs.declared.var_name.VarName.{VarName}
use Rattle.ghc_term.specs.Tree.{Tree, variable, integer, node, list_of, IsValue}
use Rattle.ghc_term.specs.Bindings.{Passes}
use Rattle.ghc_term.specs.Sets.{Variables}
use Rattle.ghc_term.specs.Store.{StoreValue}
use Rattle.ghc_flat.specs.Clause.{Clause}
use Rattle.ghc_match.specs.Position.{At}
use Rattle.ghc_match.specs.inner.Ends.{ChainEnds}
use Rattle.ghc_match.specs.Match.{AreAlike, HeadHas}

-- The set has what it had, and the variables of which P holds.
abbrev pub Gains : Variables → Variables → (VarName → Type 0) → Type 0
Gains old new P = (x : VarName) → IsTrue (set.contains new x) ↔ (IsTrue (set.contains old x) ⊎ P x)

-- The arguments of a node; other trees have none.
abbrev pub arguments : Tree → List Tree
arguments (variable _) = []
arguments (integer _) = []
arguments (node _ ts) = list_of ts

-- The head has the value h where the goal, which has t there, ends in another value.
abbrev pub Clashes : (VarName → Option Tree) → Tree → Tree → Type 0
Clashes S h t = IsValue h × ((e : Tree) × ChainEnds S t e × IsValue e × (¬ AreAlike h e))

-- The head has the value h where the goal, which has t there, ends in the unbound variable x.
abbrev pub Asks : (VarName → Option Tree) → Tree → Tree → VarName → Type 0
Asks S h t x = IsValue h × ChainEnds S t (variable x)

-- The head has the value h where the goal has t, whose chain passes x.
abbrev pub Passed : (VarName → Option Tree) → Tree → Tree → VarName → Type 0
Passed S h t x = IsValue h × Passes S t x

-- what variables stand for, once the head has h where the goal has t
abbrev pub standing : Tree → Tree → StoreValue → StoreValue
standing (variable y) t stands = finite.insert stands y t
standing (integer _) t stands = stands
standing (node _ _) t stands = stands

-- To the pairs come those just below the pair of h and t: the arguments of h beside those of the end of t.
abbrev pub Opens : (VarName → Option Tree) → Tree → Tree → List (Tree × Tree) → List (Tree × Tree) → Type 0
Opens S h t old new = (e : Tree) × ChainEnds S t e × (new ≡ old ++ zip (arguments h) (arguments e))

-- The variable x is on the chain of a place where the head has a value.
abbrev pub HeadLooksAt : Clause → List Tree → (VarName → Option Tree) → VarName → Type 0
HeadLooksAt c ts S x = (p : List ℕ) × (h t : Tree) × HeadHas c ts S p h × At S ts p t × Passes S t x
