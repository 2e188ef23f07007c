use Rattle.ghc_term.proofs.Words.{◌≡◌, ◌++◌, string_bytes, StartsWith, value_at, Tree, IsResolution, pieces_text, pieces_size}
use Rattle.ghc_term.specs.inner.Lookup.{held_in}
use Rattle.ghc_term.proofs.Resolving.{measure}
use Rattle.ghc_term.proofs.printing.write_pieces.Given as goal

abbrev pub invariant-loop-pieces : goal.invariant-loop-pieces
invariant-loop-pieces l =
    ((r : Tree → Tree) → IsResolution (value_at (held_in l.lookup)) r → string_bytes l.out ++ pieces_text r l.pieces.items ≡ string_bytes l.initial.out ++ pieces_text r l.initial.pieces.items)
    × StartsWith (string_bytes l.out) (string_bytes l.initial.out)

abbrev pub decreases-loop-pieces : goal.decreases-loop-pieces
decreases-loop-pieces l = pieces_size (measure (held_in l.lookup)) l.pieces.items
