use Rattle.ghc_term.proofs.Words.{◌≡◌, ◌++◌, ℕ, ◌≤◌, length, string_bytes, StartsWith, value_at, Tree, further_text, IsResolution, all_resolved, arguments_size}
use Rattle.ghc_term.specs.inner.Lookup.{held_in}
use Rattle.ghc_term.proofs.printing.pieces.push_further.Given as goal

abbrev pub invariant-loop-left : goal.invariant-loop-left
invariant-loop-left l =
    (l.pieces.items ≡ l.initial.pieces.items)
    × (((r : Tree → Tree) → IsResolution (value_at (held_in l.lookup)) r → string_bytes l.out ++ further_text (all_resolved r l.left) ≡ string_bytes l.initial.out ++ further_text (all_resolved r l.arguments))
    × (((w : Tree → ℕ) → arguments_size w l.left ≤ arguments_size w l.arguments)
    × StartsWith (string_bytes l.out) (string_bytes l.initial.out)))

abbrev pub decreases-loop-left : goal.decreases-loop-left
decreases-loop-left l = length l.left
