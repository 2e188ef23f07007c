-- Terms in a list that is taken out of a term are lower than it.
use Rattle.ghc_term.proofs.Words.{ℕ, ◌*◌, ◌≤◌, List, [], ◌∷◌, ◌++◌, arith, size-Term, Tree, trees, height_of_all}
use denote.Param.Weighed.{most, most-append}

most_size : (ts : List Tree) (n : ℕ) → height_of_all (trees ts) ≤ n → most size-Term ts ≤ 5 * n
most_size [] n h = omega arith
most_size (t ∷ ts) n h = omega (arith, most_size ts n (omega arith))

pub front_size : (ts : List Tree) (t : Tree) (n : ℕ) → height_of_all (trees (ts ++ t ∷ [])) ≤ n → most size-Term ts ≤ 5 * n
front_size ts t n h = omega (arith, most_size (ts ++ t ∷ []) n h, most-append size-Term ts (t ∷ []))
