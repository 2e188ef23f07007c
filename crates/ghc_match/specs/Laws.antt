-- Laws of matching and of values.
use Rattle.std.specs.Prelude.{◌≡◌, ◌↔◌, List, Option}
use Rattle.ghc_term.specs.declared.var_name.VarName.{VarName}
use Rattle.ghc_term.specs.Tree.{Tree}
use Rattle.ghc_term.specs.Expression.{Expression}
use Rattle.ghc_term.specs.Bindings.{IsAcyclic}
use Rattle.ghc_term.specs.Store.{StoreValue, value_at}
use Rattle.ghc_flat.specs.Clause.{Clause}
use Rattle.ghc_flat.specs.Flat.{IsLinear}
use Rattle.ghc_match.specs.Value.{Value, HasValue}
use Rattle.ghc_match.specs.Match.{LooksAt, Outcome, HasOutcome, Refuses}
use Rattle.ghc_match.specs.Refusal.{RefusesAt}
use Rattle.ghc_match.specs.declared.refusal.RefusalPlace.{RefusalPlace}
use Rattle.ghc_match.specs.Looked.{ExpressionReaches}

-- An expression has one value at most: it is a number, waits, or is bad, and only one of these.
abbrev pub ValuesExclude : Type 0
ValuesExclude = (S : VarName → Option Tree) (a : Expression) (v w : Value) → HasValue S a v → HasValue S a w → v ≡ w

-- In an acyclic store each expression has a value: it is a number, waits, or is bad.
abbrev pub EachExpressionHasAValue : Type 0
EachExpressionHasAValue = (s : StoreValue) (a : Expression) → IsAcyclic (value_at s) → (v : Value) × HasValue (value_at s) a v

-- Stores that agree on what an expression reaches give it one value.
abbrev pub ValueLooksAtItsTerms : Type 0
ValueLooksAtItsTerms =
    (S S' : VarName → Option Tree) (a : Expression) (v : Value) → HasValue S a v
    → ((x : VarName) → ExpressionReaches S a x → S' x ≡ S x) → HasValue S' a v

-- A clause has one outcome at most for a call: it refuses, waits or accepts, and only one of these.
abbrev pub OutcomesExclude : Type 0
OutcomesExclude = (c : Clause) (ts : List Tree) (S : VarName → Option Tree) (o p : Outcome) → HasOutcome c ts S o → HasOutcome c ts S p → o ≡ p

-- In an acyclic finite store a linear clause has an outcome for each call: it refuses, waits or accepts.
abbrev pub EachClauseHasAnOutcome : Type 0
EachClauseHasAnOutcome = (c : Clause) (ts : List Tree) (s : StoreValue) → IsLinear c → IsAcyclic (value_at s) → (o : Outcome) × HasOutcome c ts (value_at s) o

-- Stores that agree on what a clause looks at give it one outcome.
abbrev pub OutcomeIsOfWhatIsLookedAt : Type 0
OutcomeIsOfWhatIsLookedAt =
    (c : Clause) (ts : List Tree) (S S' : VarName → Option Tree) (o : Outcome) → HasOutcome c ts S o
    → ((x : VarName) → LooksAt c ts S x → S' x ≡ S x) → HasOutcome c ts S' o

-- In an acyclic finite store a clause refuses exactly where there is a place at which it refuses.
abbrev pub RefusesSomewhere : Type 0
RefusesSomewhere =
    (c : Clause) (ts : List Tree) (s : StoreValue) → IsAcyclic (value_at s) → Refuses c ts (value_at s) ↔ ((place : RefusalPlace) × RefusesAt c ts (value_at s) place)

-- A clause refuses a call at one place at most.
abbrev pub RefusesAtOnePlace : Type 0
RefusesAtOnePlace = (c : Clause) (ts : List Tree) (S : VarName → Option Tree) (p q : RefusalPlace) → RefusesAt c ts S p → RefusesAt c ts S q → p ≡ q
