-- The leaves of expressions that still wait to be gone through.
use Rattle.ghc_hooks.proofs.Words.{List, [], ◌∷◌, ◌++◌, Bor, Expression, Tree, leaves}

-- the leaves of expressions, the first one's first
abbrev pub all_leaves : List (Bor Expression) → List Tree
all_leaves [] = []
all_leaves (a ∷ rest) = leaves a.now ++ all_leaves rest
