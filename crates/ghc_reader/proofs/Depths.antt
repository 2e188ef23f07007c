-- The open brackets after the first tokens of a list.
use Rattle.ghc_reader.proofs.Words.{◌≡◌, ℕ, ◌+◌, ◌<◌, ◌≤◌, List, [], ◌∷◌, ◌++◌, length, get_or, take, drop, refl, sym, ap, subst, ◌∙◌, arith, length-append, inl, inr, cases_lt, take_more, take-append-drop, take-append_seam, open_behind, open_after, IsDeeperThan, Token}

open_after-append : (n : ℕ) (front rest : List Token) → open_after n (front ++ rest) ≡ open_after (open_after n front) rest
open_after-append n [] rest = refl
open_after-append n (t ∷ front) rest = open_after-append (open_behind n t) front rest

pub open_after-more : (n : ℕ) (ts : List Token) (i : ℕ) (d : Token) → i < length ts → open_after n (take (i + 1) ts) ≡ open_behind (open_after n (take i ts)) (get_or ts i d)
open_after-more n ts i d within = ap (open_after n) (take_more ts i d within) ∙ open_after-append n (take i ts) (get_or ts i d ∷ [])

-- it is too deep after the first tokens
pub deep_at : (most : ℕ) (ts : List Token) (n : ℕ) → most < open_after 0 (take n ts) → IsDeeperThan most ts
deep_at most ts n deep = (take n ts, drop n ts, sym (take-append-drop n ts), deep)

pub nowhere_deep : (most : ℕ) (ts : List Token) → ((k : ℕ) → k ≤ length ts → open_after 0 (take k ts) ≤ most) → IsDeeperThan most ts → ⊥
nowhere_deep most ts shallow (front, rest, split, deep) =
    let within : length front ≤ length ts = omega (arith, ap length split, length-append front rest) in
    let same : take (length front) ts ≡ front = ap (take (length front)) split ∙ take-append_seam front rest in
    let bound = subst (λ l. open_after 0 l ≤ most) same (shallow (length front) within) in
    absurd (omega arith)

-- what holds up to i and at the next place holds up to there
pub up_to_more : (f : ℕ → ℕ) (most i : ℕ) → ((k : ℕ) → k ≤ i → f k ≤ most) → f (i + 1) ≤ most → (k : ℕ) → k ≤ i + 1 → f k ≤ most
up_to_more f most i below here k h = elim (cases_lt k (i + 1)) [
  | inl before ↦ below k (omega arith)
  | inr at ↦ let same : i + 1 ≡ k = omega arith in subst (λ n. f n ≤ most) same here
]
