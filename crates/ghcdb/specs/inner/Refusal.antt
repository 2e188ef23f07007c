-- The lines of refusals.
use Rattle.std.specs.Prelude.{ℕ, List, [], ◌∷◌, ◌++◌}
use Rattle.ghc_term.specs.Fault.{fault_text}
use Rattle.ghcdb.specs.inner.RefusedPart.{prefix_of}
use Rattle.ghcdb.specs.declared.refusal.Refusal.{Refusal}

-- the byte that ends a line
abbrev pub line_feed : ℕ
line_feed = 10

-- the line that tells of a refusal
abbrev pub refusal_line : Refusal → List ℕ
refusal_line refusal = prefix_of refusal.part ++ (fault_text refusal.fault ++ line_feed ∷ [])
