-- A call's arguments, held in a tree, are the list that was given.
use Rattle.ghc_term.proofs.Words.{◌≡◌, List, [], ◌∷◌, length, refl, ap, arith, Tree, trees, list_of}

pub list_of-trees : (ts : List Tree) → list_of (trees ts) ≡ ts
list_of-trees [] = refl
list_of-trees (t ∷ ts) = ap (λ us. t ∷ us) (list_of-trees ts)

pub is_empty : (ts : List Tree) → length ts ≡ 0 → ts ≡ []
is_empty [] e = refl
is_empty (t ∷ ts) e = absurd (omega arith)
