-- From which variables one is reached, found backwards from it.
use Rattle.std.specs.Prelude.{◌≡◌, ◌⊎◌, ◌↔◌, List, Option, Some}
use Rattle.std.specs.BTreeMap.{BTreeMap, get}
use Rattle.std.specs.Global.{Vec}
use Rattle.ghc_term.specs.declared.var_name.VarName.{VarName}
use Rattle.ghc_term.specs.Bindings.{name_cmp}
use Rattle.ghc_term.specs.Lists.{In}
use Rattle.ghc_term.specs.Tree.{Tree, Occurs}

-- Under each variable a list of others: of those in whose values it stands, say.
abbrev pub Parents : Type 0
Parents = BTreeMap VarName (Vec VarName)

-- The variable v is a parent of w: it is bound to a term in which w stands.
abbrev pub IsParent : (VarName → Option Tree) → VarName → VarName → Type 0
IsParent S v w = (u : Tree) × (S v ≡ Some u) × Occurs w u

-- Under w stands v.
abbrev pub StandsUnder : Parents → VarName → VarName → Type 0
StandsUnder m w v = (vs : Vec VarName) × (get name_cmp m w ≡ Some vs) × In v vs.items

-- Under the child stands the parent too, and nothing else came.
abbrev pub GainsParent : Parents → Parents → VarName → VarName → Type 0
GainsParent old new child parent = (w v : VarName) → StandsUnder new w v ↔ (StandsUnder old w v ⊎ ((w ≡ child) × (v ≡ parent)))

-- Under each that stands in the parent's value, the parent stands too, and nothing else came.
abbrev pub GainsParentsOf : (VarName → Option Tree) → Parents → Parents → VarName → Type 0
GainsParentsOf S old new parent = (w v : VarName) → StandsUnder new w v ↔ (StandsUnder old w v ⊎ (IsParent S parent w × (v ≡ parent)))

-- Under each variable stand just its parents among these.
abbrev pub AreParentsAmong : (VarName → Option Tree) → List VarName → Parents → Type 0
AreParentsAmong S among m = (w v : VarName) → StandsUnder m w v ↔ (In v among × IsParent S v w)

-- The variable is one of those from which it begins, or it stands under one of these, or under one that stands there, and so on.
pub data IsAncestor (m : Parents) (From : VarName → Type 0) : VarName → Type 0 where
  start : {v : VarName} → From v → IsAncestor m From v
  above : {w v : VarName} → IsAncestor m From w → StandsUnder m w v → IsAncestor m From v

-- Under each variable stand just its parents.
abbrev pub AreAllParents : (VarName → Option Tree) → Parents → Type 0
AreAllParents S m = (w v : VarName) → StandsUnder m w v ↔ IsParent S v w

-- What stands in the value of one of these variables, is one of them.
abbrev pub HasAllBelow : (VarName → Option Tree) → List VarName → Type 0
HasAllBelow S among = (v w : VarName) → In v among → IsParent S v w → In w among
