-- Elements of lists by place: after a push, a write, and where the last takes the place of another.
use Rattle.ghc_term.proofs.Words.{◌≡◌, ◌≢◌, ◌<◌, ◌≤◌, ◌+◌, ◌-◌, ℕ, zero, suc, cond, true, false, nat_eq, nat_tests, eqb-true, eqb-false, cases_lt, List, [], ◌∷◌, ◌++◌, ◌⊎◌, inl, inr, length, refl, sym, ap, ◌∙◌, take, arith, Some, None, slice_get, slice_set, slice_index_or, swap_remove, slice_get-get_or, length-set, length-take-le}

pub same_number : (k : ℕ) → nat_eq k k ≡ true
same_number k = grind (arith, nat_tests)

pub other_number : (j k : ℕ) → j ≢ k → nat_eq j k ≡ false
other_number j k n = grind (arith, nat_tests)

pub one_value : {X : Type 0} (x y : X) → Some x ≡ Some y → x ≡ y
one_value x y e = cc

module _ {X : Type 0} where
  pub push_last : (xs : List X) (x : X) → slice_get (xs ++ x ∷ []) (length xs) ≡ Some x
  push_last [] x = refl
  push_last (y ∷ xs) x = push_last xs x

  pub push_before : (xs : List X) (x : X) (i : ℕ) → i < length xs → slice_get (xs ++ x ∷ []) i ≡ slice_get xs i
  push_before [] x i h = absurd (omega (arith, h))
  push_before (y ∷ xs) x zero h = refl
  push_before (y ∷ xs) x (suc i) h = push_before xs x i (omega (arith, h))

  pub push_either : (xs : List X) (x y : X) (i : ℕ) → slice_get (xs ++ x ∷ []) i ≡ Some y → (slice_get xs i ≡ Some y) ⊎ ((i ≡ length xs) × (y ≡ x))
  push_either [] x y zero e = inr (refl, sym (one_value x y e))
  push_either [] x y (suc i) e = let clash : None ≡ Some y = e in cc
  push_either (z ∷ xs) x y zero e = inl e
  push_either (z ∷ xs) x y (suc i) e = elim (push_either xs x y i e) [ inl a ↦ inl a | inr b ↦ inr (ap suc b.0, b.1) ]

  pub set_same : (xs : List X) (i : ℕ) (y : X) → i < length xs → slice_get (slice_set xs i y) i ≡ Some y
  set_same [] i y h = absurd (omega (arith, h))
  set_same (x ∷ xs) zero y h = refl
  set_same (x ∷ xs) (suc i) y h = set_same xs i y (omega (arith, h))

  pub set_other : (xs : List X) (i j : ℕ) (y : X) → j ≢ i → slice_get (slice_set xs i y) j ≡ slice_get xs j
  set_other (x ∷ xs) zero zero y n = absurd (n refl)
  set_other (x ∷ xs) (suc i) (suc j) y n = set_other xs i j y (λ e. n (ap suc e))
  set_other xs i j y n = refl

  take_within : (n : ℕ) (xs : List X) (i : ℕ) → i < n → slice_get (take n xs) i ≡ slice_get xs i
  take_within zero xs i h = absurd (omega (arith, h))
  take_within (suc n) (x ∷ xs) (suc i) h = take_within n xs i (omega (arith, h))
  take_within n xs i h = refl

  take_past : (n : ℕ) (xs : List X) (i : ℕ) → n ≤ i → slice_get (take n xs) i ≡ None
  take_past (suc n) (x ∷ xs) zero h = absurd (omega (arith, h))
  take_past (suc n) (x ∷ xs) (suc i) h = take_past n xs i (omega (arith, h))
  take_past n xs i h = refl

  pub shorter : (xs : List X) (i : ℕ) (d : X) → length (swap_remove xs i d) ≡ length xs - 1
  shorter xs i d =
      let put = slice_set xs i (slice_index_or xs (length xs - 1) d) in
      length-take-le (length xs - 1) put (omega (arith, length-set xs i (slice_index_or xs (length xs - 1) d)))

  -- the last takes the place of another, where k is its own
  module _ (xs : List X) (i k : ℕ) (d : X) (last : length xs ≡ k + 1) where
    at_end : length xs - 1 ≡ k
    at_end = omega (arith, last)

    is : swap_remove xs i d ≡ take k (slice_set xs i (slice_index_or xs k d))
    is = ap (λ m. take m (slice_set xs i (slice_index_or xs m d))) at_end

    moved_there : i < k → slice_get (swap_remove xs i d) i ≡ slice_get xs k
    moved_there h =
        ap (λ l. slice_get l i) is ∙ take_within k (slice_set xs i (slice_index_or xs k d)) i h ∙ set_same xs i (slice_index_or xs k d) (omega (arith, last, h))
        ∙ sym (slice_get-get_or xs k d (omega (arith, last)))

    others_stay : (j : ℕ) → j < k → j ≢ i → slice_get (swap_remove xs i d) j ≡ slice_get xs j
    others_stay j h n = ap (λ l. slice_get l j) is ∙ take_within k (slice_set xs i (slice_index_or xs k d)) j h ∙ set_other xs i j (slice_index_or xs k d) n

    none_behind : (j : ℕ) → k ≤ j → slice_get (swap_remove xs i d) j ≡ None
    none_behind j h = ap (λ l. slice_get l j) is ∙ take_past k (slice_set xs i (slice_index_or xs k d)) j h

    -- where each of the others stands then, and what stands at each place
    pub stays : (j : ℕ) → j < length xs → j ≢ i → i < length xs → slice_get (swap_remove xs i d) (cond (nat_eq j k) i j) ≡ slice_get xs j
    stays j h n within = elim (nat_eq j k) as (λ b. nat_eq j k ≡ b → slice_get (swap_remove xs i d) (cond b i j) ≡ slice_get xs j) [
      | true ↦ λ e. let at : j ≡ k = eqb-true j k e in moved_there (omega (arith, at, n, within, last)) ∙ ap (slice_get xs) (sym at)
      | false ↦ λ e. let apart : j ≢ k = eqb-false j k e in others_stay j (omega (arith, h, last, apart)) n
    ] refl

    pub came : (j : ℕ) (y : X) → slice_get (swap_remove xs i d) j ≡ Some y → (m : ℕ) × (slice_get xs m ≡ Some y) × (m ≢ i) × (cond (nat_eq m k) i m ≡ j)
    came j y e = elim (cases_lt j k) [
      | inr b ↦ let clash : None ≡ Some y = sym (none_behind j b) ∙ e in cc
      | inl a ↦ elim (nat_eq j i) as (λ b. nat_eq j i ≡ b → (m : ℕ) × (slice_get xs m ≡ Some y) × (m ≢ i) × (cond (nat_eq m k) i m ≡ j)) [
        | true ↦ λ f.
            let at : j ≡ i = eqb-true j i f in
            let stood = sym (moved_there (omega (arith, a, at))) ∙ ap (slice_get (swap_remove xs i d)) (sym at) ∙ e in
            (k, stood, omega (arith, a, at), ap (λ b. cond b i k) (same_number k) ∙ sym at)
        | false ↦ λ f.
            let n : j ≢ i = eqb-false j i f in
            (j, sym (others_stay j a n) ∙ e, n, ap (λ b. cond b i j) (other_number j k (omega (arith, a))))
      ] refl
    ]
