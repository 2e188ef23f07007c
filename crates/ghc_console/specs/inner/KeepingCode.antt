-- What is written of rollbacks one after another.
use Rattle.std.specs.Prelude.{◌≡◌, ℕ, List, ◌++◌}
use Rattle.ghc_core.specs.World.{World}
use Rattle.ghc_console.specs.Keeping.{RollsBack, RollBack}

-- Step n is rolled back, if it is kept, and a line after the old text tells it.
abbrev pub AddsRollback : World → ℕ → List ℕ → List ℕ → World → Type 0
AddsRollback w n old new v = (line : List ℕ) × RollsBack w n line v × (new ≡ old ++ line)

-- The steps of these numbers are rolled back, and lines after the old text tell it.
abbrev pub AddsRollbacks : World → List ℕ → List ℕ → List ℕ → World → Type 0
AddsRollbacks w ns old new v = (lines : List ℕ) × RollBack w ns lines v × (new ≡ old ++ lines)

-- The first of the steps of these numbers are rolled back, and lines after the old text tell it.
abbrev pub AddsSomeRollbacks : World → List ℕ → List ℕ → List ℕ → World → Type 0
AddsSomeRollbacks w ns old new v = (front back : List ℕ) × (ns ≡ front ++ back) × AddsRollbacks w front old new v
