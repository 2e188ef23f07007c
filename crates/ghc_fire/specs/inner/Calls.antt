-- What a clause makes of a call.
use Rattle.std.specs.Prelude.{ℕ, List, Option}
use Rattle.ghc_term.specs.declared.var_name.VarName.{VarName}
use Rattle.ghc_term.specs.Tree.{Tree}
use Rattle.ghc_flat.specs.Clause.{Clause, Program, IsClause, IsFor}
use Rattle.ghc_match.specs.Match as clause
use Rattle.ghc_fire.specs.Effect as effect
use Rattle.ghc_fire.specs.declared.calls.Verdict.{Verdict}
use Rattle.ghc_fire.specs.declared.calls.Verdict.TheVariants.{Refuses, Waits, Reduces}

-- The clause c, called with the arguments ts in the store S, has this verdict: where it accepts, it reduces the call to the effect as step n, whichever clause of a program it is.
abbrev pub HasVerdict : ℕ → Clause → List Tree → (VarName → Option Tree) → Verdict → Type 0
HasVerdict n c ts S Refuses = clause.Refuses c ts S
HasVerdict n c ts S Waits = (x : VarName) × clause.WaitsFor c ts S x
HasVerdict n c ts S (Reduces e) =
    clause.Accepts c ts S × ((P : Program) (f : List ℕ) (k : ℕ) → IsClause P k c → IsFor f ts c → effect.Reduces P f ts k n S e)
