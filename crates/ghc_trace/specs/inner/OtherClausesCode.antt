-- How the other clauses are found: by what a clause reads now, and on which steps that rests.
use Rattle.std.specs.Prelude.{List, Option, Some, None}
use Rattle.ghc_term.specs.declared.var_name.VarName.{VarName}
use Rattle.ghc_term.specs.Tree.{Tree}
use Rattle.ghc_term.specs.Lists.{In}
use Rattle.ghc_term.specs.Sets.{Variables, IsSetOf}
use Rattle.ghc_term.specs.Store.{value_at}
use Rattle.ghc_flat.specs.Clause.{Clause}
use Rattle.ghc_match.specs.Match.{Accepts, LooksAt}
use Rattle.ghc_records.specs.Record.{State, Record}
use Rattle.ghc_depend.specs.Depend.{Binds, GoesWith}
use Rattle.ghc_core.specs.World.{World}
use Rattle.ghc_trace.specs.OtherClauses.{IsStateWithout}

-- The clause reads these variables of the call, where it accepts it; or it does not.
abbrev pub IsReadBy : Clause → List Tree → (VarName → Option Tree) → Option Variables → Type 0
IsReadBy c ts S None = ¬ Accepts c ts S
IsReadBy c ts S (Some xs) = Accepts c ts S × IsSetOf xs (LooksAt c ts S)

-- The binding of one of the variables rests on the step r: that step bound it, or a consequence of it did.
abbrev pub OneRestsOn : List Record → Record → List VarName → Type 0
OneRestsOn kept r xs = (x : VarName) × (b : Record) × In x xs × In b kept × GoesWith kept r b × Binds b x

-- The clause accepts the call in the state without the step r and its consequences.
abbrev pub AcceptsWithout : World → Record → Clause → List Tree → Type 0
AcceptsWithout w r c ts = (t : State) × IsStateWithout w r t × Accepts c ts (value_at t.store)
