-- What the answers tell.
use Rattle.std.specs.Prelude.{◌≡◌, false, List, Option}
use Rattle.std.specs.FinMap as finite
use Rattle.std.specs.FinSet as set
use Rattle.ghc_term.specs.declared.var_name.VarName.{VarName}
use Rattle.ghc_term.specs.Tree.{Tree}
use Rattle.ghc_term.specs.Sets.{Variables}
use Rattle.ghc_flat.specs.Clause.{Clause}
use Rattle.ghc_match.specs.Value as value
use Rattle.ghc_match.specs.Match as clause
use Rattle.ghc_match.specs.declared.value.Value.{Value}
use Rattle.ghc_match.specs.declared.value.Value.TheVariants.{Number, Waits as value_waits, Bad}
use Rattle.ghc_match.specs.declared.guard.Says.{Says}
use Rattle.ghc_match.specs.declared.guard.Says.TheVariants.{Yes, No, Waits}
use Rattle.ghc_match.specs.declared.head.Met.{Met}
use Rattle.ghc_match.specs.declared.trying.Tried.{Tried}
use Rattle.ghc_match.specs.declared.trying.Outcome.{Outcome}
use Rattle.ghc_match.specs.declared.trying.Outcome.TheVariants as says

-- the value that an answer of `evaluate` tells
abbrev pub value_of : Value → value.Value
value_of (Number k) = value.number k
value_of (value_waits xs) = value.waits xs
value_of Bad = value.bad

-- the outcome of a clause that looked at these variables, which it read if it accepts
abbrev pub told : Outcome → Variables → clause.Outcome
told says.Refuses looked = clause.refuses
told (says.Waits xs) looked = clause.waits xs
told (says.Accepts stands) looked = clause.accepts stands looked

-- Nothing has been shown of a head and a call yet.
abbrev pub HasShownNothing : Met → Type 0
HasShownNothing m = (m.clashes ≡ false) × (m.stands ≡ finite.empty) × (m.wanted ≡ set.empty) × (m.looked ≡ set.empty)

-- the outcome of a clause that was laid over a call, where it says so and this has been shown
abbrev pub outcome_laid : Says → Met → clause.Outcome
outcome_laid Yes m = clause.accepts m.stands m.looked
outcome_laid No m = clause.refuses
outcome_laid Waits m = clause.waits m.wanted

-- The clause c says so to a call with the arguments ts in the store S, where this has been shown: only where it accepts, all that was shown counts.
abbrev pub IsAnswer : Clause → List Tree → (VarName → Option Tree) → Says → Met → Type 0
IsAnswer c ts S Yes m = clause.HasOutcome c ts S (clause.accepts m.stands m.looked)
IsAnswer c ts S No m = clause.Refuses c ts S
IsAnswer c ts S Waits m = (x : VarName) × clause.WaitsFor c ts S x

-- the outcome that an answer of `try_clause` tells
abbrev pub outcome_of : Tried → clause.Outcome
outcome_of t = told t.outcome t.looked
