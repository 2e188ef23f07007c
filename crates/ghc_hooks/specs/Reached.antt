-- What terms reach, and how a search for it goes on at a variable.
use Rattle.std.specs.Prelude.{◌≡◌, ◌⊎◌, ◌↔◌, List, [], ◌∷◌, ◌++◌, Option, IsTrue}
use Rattle.std.specs.FinSet as set
use Rattle.ghc_term.specs.declared.var_name.VarName.{VarName}
use Rattle.ghc_term.specs.Tree.{Tree}
use Rattle.ghc_term.specs.Expression.{Expression, leaf, operation}
use Rattle.ghc_term.specs.Lists.{In}
use Rattle.ghc_term.specs.Bindings.{Reaches}
use Rattle.ghc_term.specs.inner.Seen.{value_list}
use Rattle.ghc_term.specs.Sets.{Variables}

-- the leaves of an expression, from left to right
abbrev pub leaves : Expression → List Tree
leaves (leaf t) = t ∷ []
leaves (operation _ a b) = leaves a ++ leaves b

-- One of the trees reaches the variable x.
abbrev pub OneReaches : (VarName → Option Tree) → List Tree → VarName → Type 0
OneReaches S ts x = (t : Tree) × In t ts × Reaches S t x

-- The variable x was among those reached, or it is now, and its value is among the trees that are open.
abbrev pub TakesUp : (VarName → Option Tree) → VarName → Variables → Variables → List Tree → List Tree → Type 0
TakesUp S x reached reached' open_ones open' =
    (IsTrue (set.contains reached x) × (reached' ≡ reached) × (open' ≡ open_ones)) ⊎ ((reached' ≡ set.insert reached x) × (open' ≡ open_ones ++ value_list (S x)) × (¬ IsTrue (set.contains reached x)))

-- each variable stands in the list once
abbrev pub StandOnce : List VarName → Type 0
StandOnce [] = Unit {0}
StandOnce (x ∷ xs) = (¬ In x xs) × StandOnce xs

-- the values of the variables that have one
abbrev pub values_of : (VarName → Option Tree) → List VarName → List Tree
values_of S [] = []
values_of S (x ∷ xs) = value_list (S x) ++ values_of S xs

-- Each variable of which P holds was among those reached, or it came; the value of each that came is among the trees that are open.
abbrev pub TakesUpAll : (VarName → Option Tree) → (VarName → Type 0) → Variables → Variables → List Tree → List Tree → Type 0
TakesUpAll S P reached reached' open_ones open' = (came : List VarName)
    × StandOnce came
    × ((x : VarName) → In x came ↔ (P x × (¬ IsTrue (set.contains reached x))))
    × ((x : VarName) → IsTrue (set.contains reached' x) ↔ (IsTrue (set.contains reached x) ⊎ P x))
    × (open' ≡ open_ones ++ values_of S came)
