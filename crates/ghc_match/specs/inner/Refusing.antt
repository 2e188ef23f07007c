-- What the search for the place at which a clause refuses tells.
use Rattle.std.specs.Prelude.{◌≡◌, ℕ, ◌+◌, List, [], ◌∷◌, Option, Some, None, slice_get}
use Rattle.std.specs.Borrow.{Bor}
use Rattle.ghc_term.specs.declared.var_name.VarName.{VarName}
use Rattle.ghc_term.specs.Tree.{Tree}
use Rattle.ghc_flat.specs.declared.test.Test.{Test}
use Rattle.ghc_flat.specs.Clause.{Clause}
use Rattle.ghc_match.specs.Match.{Mismatch, Refuses}
use Rattle.ghc_match.specs.Refusal.{IsFirst, RefusesAt}
use Rattle.ghc_match.specs.inner.Guarding.{IsSaid}
use Rattle.ghc_match.specs.declared.guard.Says.TheVariants.{No}
use Rattle.ghc_match.specs.declared.refusal.RefusalPlace.{RefusalPlace}

-- The answer is the first number of which P holds, counted from 1; or none, where P holds of no number.
abbrev pub TellsFirst : (ℕ → Type 0) → Option ℕ → Type 0
TellsFirst P None = (i : ℕ) → ¬ P i
TellsFirst P (Some k) = (i : ℕ) × (k ≡ i + 1) × IsFirst P i

-- A head with the one argument h has a mismatch with the one argument t.
abbrev pub ClashesWithin : (VarName → Option Tree) → Tree → Tree → Type 0
ClashesWithin S h t = Mismatch (record { name = []; head = h ∷ []; tests = []; body = [] }) (t ∷ []) S

-- The test i says no, where E says in which tree each variable ends.
abbrev pub IsNoAt : (VarName → Tree → Type 0) → List Test → ℕ → Type 0
IsNoAt E gs i = (g : Test) × (slice_get gs i ≡ Some g) × IsSaid E g No

-- The answer is the first test that says no, and its number, counted from 1; or none, where no test does.
abbrev pub TellsFirstNo : (VarName → Tree → Type 0) → List Test → Option (ℕ × Bor Test) → Type 0
TellsFirstNo E gs None = (i : ℕ) → ¬ IsNoAt E gs i
TellsFirstNo E gs (Some q) = (i : ℕ) × (q.0 ≡ i + 1) × (slice_get gs i ≡ Some q.1.now) × IsFirst (IsNoAt E gs) i

-- The answer is the place at which the clause refuses; or none, where it does not refuse.
abbrev pub TellsRefusal : Clause → List Tree → (VarName → Option Tree) → Option RefusalPlace → Type 0
TellsRefusal c ts S None = ¬ Refuses c ts S
TellsRefusal c ts S (Some place) = RefusesAt c ts S place
