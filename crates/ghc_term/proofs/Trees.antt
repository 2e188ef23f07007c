-- Laws of trees in lists: where variables stand in them, and how high they are.
use Rattle.ghc_term.proofs.Words.{◌≡◌, ℕ, zero, suc, ◌+◌, ◌<◌, ◌≤◌, List, [], ◌∷◌, ◌++◌, length, get_or, take, sym, ap, ◌∙◌, subst, inl, inr, ◌⊎◌, arith, take_more, VarName, Tree, trees, Occurs, OccursIn, IsClosed, AreClosed, height, height_of_all}

-- the variables of one more argument
pub OccursIn_push : (ts : List Tree) (t : Tree) (y : VarName) → OccursIn y (trees (ts ++ t ∷ [])) → OccursIn y (trees ts) ⊎ Occurs y t
OccursIn_push [] t y (inl o) = inr o
OccursIn_push [] t y (inr n) = absurd n
OccursIn_push (u ∷ ts) t y (inl o) = inl (inl o)
OccursIn_push (u ∷ ts) t y (inr h) = elim (OccursIn_push ts t y h) [ inl i ↦ inl (inr i) | inr o ↦ inr o ]

pub height_below : (ts : List Tree) (i : ℕ) (d : Tree) → i < length ts → height (get_or ts i d) < height_of_all (trees ts)
height_below [] i d h = absurd (omega arith)
height_below (t ∷ ts) zero d h = omega arith
height_below (t ∷ ts) (suc i) d h = omega (arith, height_below ts i d (omega arith))

pub height_item : (ts : List Tree) (i : ℕ) (t : Tree) → i < length ts → t ≡ get_or ts i t → height t < height_of_all (trees ts)
height_item ts i t h e = subst (λ u. height u < height_of_all (trees ts)) (sym e) (height_below ts i t h)

-- the last argument is lower than the node, and the front no higher
pub height_last : (front : List Tree) (last : Tree) → height last < height_of_all (trees (front ++ last ∷ []))
height_last [] last = omega arith
height_last (t ∷ ts) last = omega (arith, height_last ts last)

pub height_front : (front : List Tree) (last : Tree) → height_of_all (trees front) ≤ height_of_all (trees (front ++ last ∷ []))
height_front [] last = omega arith
height_front (t ∷ ts) last = omega (arith, height_front ts last)

-- a variable of one of the trees stands in them
pub OccursIn_at : (ts : List Tree) (i : ℕ) (d : Tree) (y : VarName) → i < length ts → Occurs y (get_or ts i d) → OccursIn y (trees ts)
OccursIn_at [] i d y h o = absurd (omega arith)
OccursIn_at (t ∷ ts) zero d y h o = inl o
OccursIn_at (t ∷ ts) (suc i) d y h o = inr (OccursIn_at ts i d y (omega arith) o)

-- one closed tree more
pub closed_next : (ts : List Tree) (i : ℕ) (t : Tree) → i < length ts → t ≡ get_or ts i t → AreClosed (trees (take i ts)) → IsClosed t → AreClosed (trees (take (i + 1) ts))
closed_next ts i t h e front item x o =
    let more : take (i + 1) ts ≡ take i ts ++ t ∷ [] = take_more ts i t h ∙ ap (λ u. take i ts ++ u ∷ []) (sym e) in
    elim (OccursIn_push (take i ts) t x (subst (λ l. OccursIn x (trees l)) more o)) [ inl a ↦ front x a | inr b ↦ item x b ]

-- a tree that is not closed is one of trees that are not
pub open_item : (ts : List Tree) (i : ℕ) (t : Tree) → i < length ts → t ≡ get_or ts i t → AreClosed (trees ts) → IsClosed t
open_item ts i t h e closed x o = closed x (OccursIn_at ts i t x h (subst (λ u. Occurs x u) e o))
