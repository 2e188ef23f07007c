-- In which trees variables end.
use Rattle.std.specs.Prelude.{◌≡◌, List, Option, Some}
use Rattle.ghc_term.specs.declared.var_name.VarName.{VarName}
use Rattle.ghc_term.specs.Tree.{Tree, variable, IsValue}
use Rattle.ghc_term.specs.Bindings.{Leads}
use Rattle.ghc_term.specs.Store.{StoreValue, value_at}
use Rattle.ghc_match.specs.Position.{EndsIn}
use Rattle.ghc_match.specs.declared.scope.Scope.{Scope}
use Rattle.ghc_match.specs.declared.scope.Scope.TheVariants.{Goal, Head}
use Rattle.ghc_match.specs.declared.scope.End.{End}
use Rattle.ghc_match.specs.declared.scope.End.TheVariants.{Nowhere, Unbound, Value}

-- The chain of the tree t ends in e.
abbrev pub ChainEnds : (VarName → Option Tree) → Tree → Tree → Type 0
ChainEnds S t e = (xs : List VarName) × Leads S t xs e

-- The variable x ends in e, where the map says what variables stand for: in no tree, if it stands for nothing.
abbrev pub StandsAndEnds : StoreValue → (VarName → Option Tree) → VarName → Tree → Type 0
StandsAndEnds stands S x e = (t : Tree) × (value_at stands x ≡ Some t) × ChainEnds S t e

-- The variable x ends in e: in a goal it stands for itself, and in a guard for what the head gives it.
abbrev pub EndsAt : Scope → StoreValue → VarName → Tree → Type 0
EndsAt Goal s = EndsIn (value_at s)
EndsAt (Head stands) s = StandsAndEnds stands.now (value_at s)

-- The answer tells in which tree something ends, where P holds of that tree alone.
abbrev pub TellsEnd : (Tree → Type 0) → End → Type 0
TellsEnd P Nowhere = (e : Tree) → ¬ P e
TellsEnd P (Unbound x) = P (variable x)
TellsEnd P (Value t) = P t.now × IsValue t.now
