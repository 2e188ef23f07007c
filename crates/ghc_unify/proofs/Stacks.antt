-- Lists of equations whose last one comes first.
use Rattle.ghc_unify.proofs.Words.{◌≡◌, ℕ, ◌-◌, ◌<◌, ◌≤◌, suc, List, [], ◌∷◌, ◌++◌, length, get_or, drop, sym, ap, ◌∙◌, arith, drop-cons, reverse, reverse-append, drop_all, Tree, trees, Pairs, no_more, one_more}

pub reverse_push : {X : Type 0} (xs : List X) (x : X) → reverse (xs ++ x ∷ []) ≡ x ∷ reverse xs
reverse_push xs x = reverse-append xs (x ∷ [])

-- after the last arguments there is nothing
pub pairs_end : (ls rs : List Tree) → length ls ≡ length rs → Pairs (trees (drop (length ls) ls)) (trees (drop (length ls) rs)) []
pairs_end ls rs e = rw (drop_all (length ls) ls (omega arith), drop_all (length ls) rs (omega arith)) no_more

-- one pair of arguments more, from the right
pub pairs_more : (ls rs : List Tree) (n : ℕ) (t u d f : Tree) (es : List (Tree × Tree)) → 0 < n → n ≤ length ls → length ls ≡ length rs → t ≡ get_or ls (n - 1) d → u ≡ get_or rs (n - 1) f
    → Pairs (trees (drop n ls)) (trees (drop n rs)) es → Pairs (trees (drop (n - 1) ls)) (trees (drop (n - 1) rs)) ((t, u) ∷ es)
pairs_more ls rs n t u d f es p h e a b rest =
    let back : suc (n - 1) ≡ n = omega arith in
    let left : drop (n - 1) ls ≡ t ∷ drop n ls = drop-cons ls (n - 1) d (omega arith) ∙ ap (λ z. z ∷ drop (suc (n - 1)) ls) (sym a) ∙ ap (λ k. t ∷ drop k ls) back in
    let right : drop (n - 1) rs ≡ u ∷ drop n rs = drop-cons rs (n - 1) f (omega arith) ∙ ap (λ z. z ∷ drop (suc (n - 1)) rs) (sym b) ∙ ap (λ k. u ∷ drop k rs) back in
    rw (left, right) (one_more rest)
