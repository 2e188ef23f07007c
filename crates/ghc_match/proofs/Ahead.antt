-- The pairs that are still ahead, one less and some more.
use Rattle.ghc_match.proofs.Words.{◌≡◌, ℕ, zero, suc, ◌-◌, ◌<◌, ◌≤◌, List, [], ◌∷◌, ◌++◌, length, take, slice_index_or, refl, sym, ap, ◌∙◌, subst, ◌⊎◌, inl, inr, append_assoc, append-nil, arith, zip, Tree, ahead_in, ahead_of, Places}

pub zip_all : (hs ts : List Tree) → zip (take (length hs) hs) (take (length hs) ts) ≡ zip hs ts
zip_all (h ∷ hs) (t ∷ ts) = ap (λ l. (h, t) ∷ l) (zip_all hs ts)
zip_all _ _ = refl

zip_more : (hs ts : List Tree) (i : ℕ) (d e : Tree) → i < length hs → i < length ts → zip (take (suc i) hs) (take (suc i) ts) ≡ zip (take i hs) (take i ts) ++ (slice_index_or hs i d, slice_index_or ts i e) ∷ []
zip_more [] ts i d e k l = absurd (omega (arith, k))
zip_more (x ∷ hs) [] i d e k l = absurd (omega (arith, l))
zip_more (x ∷ hs) (y ∷ ts) zero d e k l = refl
zip_more (x ∷ hs) (y ∷ ts) (suc i) d e k l = ap (λ z. (x, y) ∷ z) (zip_more hs ts i d e (omega (arith, k)) (omega (arith, l)))

zip_no_more : (hs ts : List Tree) (i : ℕ) → (length hs ≤ i) ⊎ (length ts ≤ i) → zip (take (suc i) hs) (take (suc i) ts) ≡ zip (take i hs) (take i ts)
zip_no_more [] ts zero e = refl
zip_no_more [] ts (suc i) e = refl
zip_no_more (x ∷ hs) [] zero e = refl
zip_no_more (x ∷ hs) [] (suc i) e = refl
zip_no_more (x ∷ hs) (y ∷ ts) zero e = elim e [ inl n ↦ absurd (omega (arith, n)) | inr n ↦ absurd (omega (arith, n)) ]
zip_no_more (x ∷ hs) (y ∷ ts) (suc i) e = ap (λ l. (x, y) ∷ l) (zip_no_more hs ts i (elim e [ inl n ↦ inl (omega (arith, n)) | inr n ↦ inr (omega (arith, n)) ]))

-- one place less, where both lists have it, and where one has not
pub one_less : (hs ts : List Tree) (n : ℕ) (d e : Tree) → 0 < n → n - 1 < length hs → n - 1 < length ts → zip (take n hs) (take n ts) ≡ zip (take (n - 1) hs) (take (n - 1) ts) ++ (slice_index_or hs (n - 1) d, slice_index_or ts (n - 1) e) ∷ []
one_less hs ts zero d e p k l = absurd (omega (arith, p))
one_less hs ts (suc i) d e p k l =
    let same : suc i - 1 ≡ i = omega arith in
    subst (λ j. zip (take (suc i) hs) (take (suc i) ts) ≡ zip (take j hs) (take j ts) ++ (slice_index_or hs j d, slice_index_or ts j e) ∷ []) (sym same) (zip_more hs ts i d e (omega (arith, k)) (omega (arith, l)))

pub none_less : (hs ts : List Tree) (n : ℕ) → 0 < n → (length hs ≤ n - 1) ⊎ (length ts ≤ n - 1) → zip (take n hs) (take n ts) ≡ zip (take (n - 1) hs) (take (n - 1) ts)
none_less hs ts zero p e = absurd (omega (arith, p))
none_less hs ts (suc i) p e =
    let same : suc i - 1 ≡ i = omega arith in
    subst (λ j. zip (take (suc i) hs) (take (suc i) ts) ≡ zip (take j hs) (take j ts)) (sym same) (zip_no_more hs ts i (subst (λ j. (length hs ≤ j) ⊎ (length ts ≤ j)) same e))

pub ahead_push : (ps : List Places) (p : Places) → ahead_of (ps ++ p ∷ []) ≡ ahead_of ps ++ ahead_in p
ahead_push [] p = append-nil (ahead_in p)
ahead_push (q ∷ ps) p = ap (λ l. ahead_in q ++ l) (ahead_push ps p) ∙ sym (append_assoc (ahead_in q) (ahead_of ps) (ahead_in p))
