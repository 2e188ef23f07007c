-- Lists of variables that go up one by one, and the variables of texts that are numbered by first occurrence.
use Rattle.ghc_flat.proofs.Words.{◌≡◌, ◌≢◌, ℕ, zero, suc, ◌+◌, ◌-◌, ◌<◌, ◌≤◌, false, cond, List, [], ◌∷◌, ◌++◌, length, inl, inr, sym, ap, ◌∙◌, subst, arith, Some, slice_get, list_any, eq_by_cmp, false_from_ne_true, VarName, var_inj, name_cmp, In, any_in, in_decided, name_decided, AreNumbered, asked, AreDistinct, Rises, IsAmong}
use Rattle.ghc_term.specs.Variables.{firsts}

pub rises_append : (xs ys : List VarName) (k : ℕ) → Rises k xs → Rises (k + length xs) ys → Rises k (xs ++ ys)
rises_append [] ys k r s = let same : k + 0 ≡ k = omega arith in subst (λ n. Rises n ys) same s
rises_append (x ∷ xs) ys k r s =
    let same : k + length (x ∷ xs) ≡ (k + 1) + length xs = omega arith in
    (r.0, rises_append xs ys (k + 1) r.1 (subst (λ n. Rises n ys) same s))

-- what stands in such a list
pub place_of_in : (xs : List VarName) (k : ℕ) (x : VarName) → Rises k xs → In x xs → (i : ℕ) × (x ≡ asked (k + i + 1)) × (i < length xs)
place_of_in [] k x r i = absurd i
place_of_in (y ∷ xs) k x r (inl e) =
    let same : k + 1 ≡ k + 0 + 1 = omega arith in
    (0, e ∙ r.0 ∙ ap asked same, omega arith)
place_of_in (y ∷ xs) k x r (inr i) =
    let p = place_of_in xs (k + 1) x r.1 i in
    let same : (k + 1) + p.0 + 1 ≡ k + suc p.0 + 1 = omega arith in
    let less : p.0 < length xs = p.2 in
    (suc p.0, p.1 ∙ ap asked same, omega (arith, less))

pub in_of_place : (xs : List VarName) (k i : ℕ) → Rises k xs → i < length xs → In (asked (k + i + 1)) xs
in_of_place [] k i r l = absurd (omega arith)
in_of_place (y ∷ xs) k zero r l = let same : k + 0 + 1 ≡ k + 1 = omega arith in inl (ap asked same ∙ sym r.0)
in_of_place (y ∷ xs) k (suc i) r l =
    let same : (k + 1) + i + 1 ≡ k + suc i + 1 = omega arith in
    inr (subst (λ n. In (asked n) xs) same (in_of_place xs (k + 1) i r.1 (omega arith)))

pub rises_distinct : (xs : List VarName) (k : ℕ) → Rises k xs → AreDistinct xs
rises_distinct [] k r = tt
rises_distinct (x ∷ xs) k r = (
  λ i.
      let p = place_of_in xs (k + 1) x r.1 i in
      let clash : k + 1 ≡ (k + 1) + p.0 + 1 = ap (λ (y : VarName). y.place) (sym r.0 ∙ p.1) in
      omega (arith, clash),
  rises_distinct xs (k + 1) r.1,
)

-- a variable stands in it where it is among them
pub among_of_in : (xs : List VarName) (x : VarName) → Rises 0 xs → In x xs → IsAmong (length xs) x
among_of_in xs x r i =
    let p = place_of_in xs 0 x r i in
    let step : x.step ≡ 0 = ap (λ (y : VarName). y.step) p.1 in
    let place : x.place ≡ 0 + p.0 + 1 = ap (λ (y : VarName). y.place) p.1 in
    let less : p.0 < length xs = p.2 in
    (step, omega (arith, place), omega (arith, place, less))

pub in_of_among : (xs : List VarName) (x : VarName) → Rises 0 xs → IsAmong (length xs) x → In x xs
in_of_among xs x r a =
    let low : 0 < x.place = a.1 in
    let high : x.place ≤ length xs = a.2 in
    let place : 0 + (x.place - 1) + 1 ≡ x.place = omega (arith, low) in
    let same : asked (0 + (x.place - 1) + 1) ≡ x = var_inj (asked (0 + (x.place - 1) + 1)) x (sym a.0) place in
    subst (λ y. In y xs) same (in_of_place xs 0 (x.place - 1) r (omega (arith, low, high)))

-- what is not in a list is not found there
pub not_in_any : (x : VarName) (xs : List VarName) → (¬ In x xs) → list_any (eq_by_cmp name_cmp x) xs ≡ false
not_in_any x xs n = false_from_ne_true (list_any (eq_by_cmp name_cmp x) xs) (λ e. n (any_in x xs e))

-- each place in the list is k at most
abbrev pub ArePlacedUpTo : ℕ → List VarName → Type 0
ArePlacedUpTo k xs = (y : VarName) → In y xs → y.place ≤ k

pub above_absent : (k : ℕ) (seen : List VarName) (y : VarName) → y ≡ asked (k + 1) → ArePlacedUpTo k seen → ¬ In y seen
above_absent k seen y e b i =
    let place : y.place ≡ k + 1 = ap (λ (z : VarName). z.place) e in
    let low : y.place ≤ k = b y i in
    omega (arith, place, low)

pub placed_more : (k : ℕ) (seen : List VarName) (y : VarName) → y ≡ asked (k + 1) → ArePlacedUpTo k seen → ArePlacedUpTo (k + 1) (y ∷ seen)
placed_more k seen y e b z (inl s) =
    let place : z.place ≡ k + 1 = ap (λ (u : VarName). u.place) (s ∙ e) in
    omega (arith, place)
placed_more k seen y e b z (inr i) = let low : z.place ≤ k = b z i in omega (arith, low)

-- after variables that go up, a new one is the next by first occurrence
pub next_first : (front : List VarName) (k : ℕ) (seen : List VarName) (x : VarName) (rest : List VarName) → Rises k front → ArePlacedUpTo k seen → (¬ In x front) → (¬ In x seen)
    → slice_get (firsts seen (front ++ x ∷ rest)) (length front) ≡ Some x
next_first [] k seen x rest r b n m = ap (λ t. slice_get (cond t (firsts seen rest) (x ∷ firsts (x ∷ seen) rest)) 0) (not_in_any x seen m)
next_first (y ∷ ys) k seen x rest r b n m =
    ap (λ t. slice_get (cond t (firsts seen (ys ++ x ∷ rest)) (y ∷ firsts (y ∷ seen) (ys ++ x ∷ rest))) (suc (length ys))) (not_in_any y seen (above_absent k seen y r.0 b))
    ∙ next_first ys (k + 1) (y ∷ seen) x rest r.1 (placed_more k seen y r.0 b) (λ i. n (inr i)) (λ i. elim i [ inl e ↦ n (inl e) | inr j ↦ m j ])

-- variables that go up are all different by first occurrence
pub firsts_long : (front : List VarName) (k : ℕ) (seen rest : List VarName) → Rises k front → ArePlacedUpTo k seen → length front ≤ length (firsts seen (front ++ rest))
firsts_long [] k seen rest r b = omega arith
firsts_long (y ∷ ys) k seen rest r b =
    let same = ap (λ t. length (cond t (firsts seen (ys ++ rest)) (y ∷ firsts (y ∷ seen) (ys ++ rest)))) (not_in_any y seen (above_absent k seen y r.0 b)) in
    omega (arith, same, firsts_long ys (k + 1) (y ∷ seen) rest r.1 (placed_more k seen y r.0 b))

-- in a numbered list, after variables that go up, one that does not go on is one of them
pub again : (front : List VarName) (x : VarName) (rest : List VarName) → AreNumbered (front ++ x ∷ rest) → Rises 0 front → x ≢ asked (0 + length front + 1) → In x front
again front x rest numbered r other =
    elim (in_decided name_decided x front) [
      | inl i ↦ i
      | inr n ↦
          let same : length front + 1 ≡ 0 + length front + 1 = omega arith in
          absurd (other (numbered (length front) x (next_first front 0 [] x rest r (λ y i. absurd i) n (λ i. i)) ∙ ap asked same))
    ]
