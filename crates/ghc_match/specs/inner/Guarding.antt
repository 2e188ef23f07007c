-- What a guard says, where it is known what its variables stand for.
use Rattle.std.specs.Prelude.{◌≡◌, ◌⊎◌, Bool, true, false, List, Option, Some, None}
use Rattle.ghc_term.specs.declared.var_name.VarName.{VarName}
use Rattle.ghc_term.specs.Tree.{Tree, IsValue}
use Rattle.std.specs.Borrow.{Bor}
use Rattle.ghc_term.specs.Lists.{In}
use Rattle.ghc_term.specs.Bindings.{Passes}
use Rattle.ghc_term.specs.Store.{StoreValue, value_at}
use Rattle.ghc_flat.specs.declared.test.Test.{Test}
use Rattle.ghc_flat.specs.Variables.{variables_of_test}
use Rattle.ghc_match.specs.Value.{Wants}
use Rattle.ghc_match.specs.Match.{HoldsBy}
use Rattle.ghc_match.specs.declared.guard.Says.{Says}
use Rattle.ghc_match.specs.declared.guard.Says.TheVariants.{Yes, No, Waits}

-- The variable y stands for a tree whose chain passes x, where the map says what variables stand for.
abbrev pub StandsAndPasses : StoreValue → (VarName → Option Tree) → VarName → VarName → Type 0
StandsAndPasses stands S y x = (t : Tree) × (value_at stands y ≡ Some t) × Passes S t x

-- One of the variables stands for a tree whose chain passes x.
abbrev pub PassedFrom : StoreValue → (VarName → Option Tree) → List VarName → VarName → Type 0
PassedFrom stands S ys x = (y : VarName) × In y ys × StandsAndPasses stands S y x

-- The answer is the value that P holds of, or none where it holds of no value.
abbrev pub TellsValue : (Tree → Type 0) → Option (Bor Tree) → Type 0
TellsValue P None = (e : Tree) → P e → ¬ IsValue e
TellsValue P (Some t) = P t.now × IsValue t.now

-- E says in which tree each variable ends.
module _ (E : VarName → Tree → Type 0) where
  -- The test says so: it waits, or it waits for nothing and holds, or does not.
  abbrev pub IsSaid : Test → Says → Type 0
  IsSaid g Yes = ((x : VarName) → ¬ Wants E (variables_of_test g) x) × HoldsBy E g
  IsSaid g No = ((x : VarName) → ¬ Wants E (variables_of_test g) x) × (¬ HoldsBy E g)
  IsSaid g Waits = (x : VarName) × Wants E (variables_of_test g) x

  -- One of the tests says no, or else each of them waits or says yes.
  abbrev pub OneSaysNo : List Test → Bool → Type 0
  OneSaysNo gs true = (g : Test) × In g gs × IsSaid g No
  OneSaysNo gs false = (g : Test) → In g gs → IsSaid g Waits ⊎ IsSaid g Yes

  -- One of the tests waits for x.
  abbrev pub OneWants : List Test → VarName → Type 0
  OneWants gs x = (g : Test) × In g gs × Wants E (variables_of_test g) x

-- The variable x is on the chain of what a variable of one of the tests stands for.
abbrev pub GuardLooksAt : StoreValue → (VarName → Option Tree) → List Test → VarName → Type 0
GuardLooksAt stands S gs x = (g : Test) × In g gs × PassedFrom stands S (variables_of_test g) x
