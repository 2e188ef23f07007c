-- The variables of expressions that still wait to be walked.
use Rattle.ghc_match.proofs.Words.{ℕ, ◌+◌, List, [], ◌∷◌, ◌++◌, Bor, VarName, Expression, leaf_variables, steps_of}

-- the variables of expressions, the first one's first
abbrev pub leaves : List (Bor Expression) → List VarName
leaves [] = []
leaves (a ∷ rest) = leaf_variables a.now ++ leaves rest

-- the parts of expressions
abbrev pub parts : List (Bor Expression) → ℕ
parts [] = 0
parts (a ∷ rest) = steps_of a.now + parts rest
