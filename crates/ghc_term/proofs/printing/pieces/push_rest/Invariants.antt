use Rattle.ghc_term.proofs.Words.{◌≡◌, ◌++◌, ℕ, ◌≤◌, string_bytes, StartsWith, value_at, Tree, rest_text, IsMeasure, IsResolution}
use Rattle.ghc_term.specs.inner.Lookup.{held_in}
use Rattle.ghc_term.specs.inner.Pieces.{rest_size}
use Rattle.ghc_term.proofs.Resolving.{measure}
use Rattle.ghc_term.proofs.printing.pieces.push_rest.Given as goal

abbrev pub invariant-loop-end : goal.invariant-loop-end
invariant-loop-end l =
    (l.pieces.items ≡ l.initial.pieces.items)
    × (((r : Tree → Tree) → IsResolution (value_at (held_in l.lookup)) r → string_bytes l.out ++ rest_text (r l.left) ≡ string_bytes l.initial.out ++ rest_text (r l.term))
    × (((w : Tree → ℕ) → IsMeasure (value_at (held_in l.lookup)) w → rest_size w l.left ≤ rest_size w l.term)
    × StartsWith (string_bytes l.out) (string_bytes l.initial.out)))

abbrev pub decreases-loop-end : goal.decreases-loop-end
decreases-loop-end l = measure (held_in l.lookup) l.left
