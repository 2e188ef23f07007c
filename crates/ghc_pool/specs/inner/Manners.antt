-- Which manner of taking steps serves which program.
use Rattle.std.specs.Prelude.{◌≡◌, ◌≤◌, ◌<◌, ℕ, Bool, true, false}
use Rattle.ghc_core.specs.Excerpt.{few_clauses}
use Rattle.ghc_pool.specs.declared.manner.Manner.{Manner}
use Rattle.ghc_pool.specs.declared.manner.Manner.TheVariants.{AtOnce, Apart, Proposed}

-- The manner serves a program of so many clauses, where a worker may be held up or none may. At once serves few clauses, and apart many; one after the other serves where a worker may be held up.
abbrev pub Serves : Bool → ℕ → Manner → Type 0
Serves holds_up clauses AtOnce = (holds_up ≡ false) × (clauses ≤ few_clauses)
Serves holds_up clauses Apart = (holds_up ≡ false) × (few_clauses < clauses)
Serves holds_up clauses Proposed = holds_up ≡ true
